-- Where the further file of a request was not read, the three before it were.
use Rattle.std.proofs.Common.{◌≡◌, ℕ, ◌≤◌, false, List, length, Option, Some, None, Ok, Err, refl, subst, ◌∙◌, arith, ltb}
use Rattle.std.specs.Option.{IfSome}
use Rattle.std.proofs.lemmas.Bool.Decides.{nat_tests}
use Rattle.gsm_outside.specs.Held.{Held, file_bytes}
use Rattle.request_files.specs.declared.files.TheConstants.{FILE_LIMIT}
use Rattle.command_words.specs.declared.file_word.FileWord.{FileWord}
use Rattle.command_words.specs.declared.file_word.FileWord.TheVariants as file
use Rattle.request_files.specs.declared.unread.Unread.{Unread}
use Rattle.request_files.specs.declared.unread.Unread.TheVariants as unread
use Rattle.command_words.specs.Asked.{Asked}
use Rattle.command_words.specs.Commands.{further_file}
use Rattle.request_files.specs.Reading.{WhereTold, ReadCase}
use Rattle.request_files.specs.Lengths.{limit_of, long_if, further_long, too_long_of, longer_before}
use Rattle.request_files.specs.Contents.{IsFileOf, FurtherCase, FilesCase}

small : (limit n : ℕ) → n ≤ limit → ltb limit n ≡ false
small limit n le = grind (arith, nat_tests)

not_long : (word : FileWord) (bytes file : List ℕ) → length bytes ≤ limit_of word → bytes ≡ file → long_if word file ≡ None
not_long word bytes file short same =
    let within : length file ≤ limit_of word = subst (λ (xs : List ℕ). length xs ≤ limit_of word) same short in
    rw (small (limit_of word) (length file) within) refl

-- the three files of a network are not too long, where the shelf tells
abbrev AreShortIn : Asked → Held → Type 0
AreShortIn q m =
    (long_if file.Stages (file_bytes m q.stages) ≡ None) × (long_if file.Tables (file_bytes m q.tables) ≡ None) × (long_if file.Arcs (file_bytes m q.arcs) ≡ None)

short_in : (q : Asked) (held : Option Held) (s t a : List ℕ) → (length s ≤ FILE_LIMIT) × WhereTold held q.stages (λ f. s ≡ f) → (length t ≤ FILE_LIMIT) × WhereTold held q.tables (λ f. t ≡ f)
    → (length a ≤ FILE_LIMIT) × WhereTold held q.arcs (λ f. a ≡ f) → IfSome held (λ m. AreShortIn q m)
short_in q None s t a stages tables arcs = tt
short_in q (Some m) s t a stages tables arcs =
    (not_long file.Stages s (file_bytes m q.stages) stages.0 stages.1, not_long file.Tables t (file_bytes m q.tables) tables.0 tables.1, not_long file.Arcs a (file_bytes m q.arcs) arcs.0 arcs.1)

file_of : (q : Asked) (word : FileWord) → further_file q.command ≡ Some word → IsFileOf q.command word
file_of q file.Stages is = tt
file_of q file.Tables is = tt
file_of q file.Arcs is = tt
file_of q file.Script is = is
file_of q file.Plan is = is
file_of q file.Cert is = is

none_before : (q : Asked) (held : Option Held) (word : FileWord) → IfSome held (λ m. AreShortIn q m) → IfSome held (λ m. longer_before q m word ≡ None)
none_before q None word short = tt
none_before q (Some m) file.Stages short = refl
none_before q (Some m) file.Tables short = short.0
none_before q (Some m) file.Arcs short = rw (short.0, short.1) refl
none_before q (Some m) file.Script short = rw (short.0, short.1, short.2) refl
none_before q (Some m) file.Plan short = rw (short.0, short.1, short.2) refl
none_before q (Some m) file.Cert short = rw (short.0, short.1, short.2) refl

too_long : (q : Asked) (held : Option Held) (word : FileWord) → IfSome held (λ m. AreShortIn q m) → IfSome held (λ m. further_long (further_file q.command) (file_bytes m q.further) ≡ Some word)
    → IfSome held (λ m. too_long_of q m ≡ Some word)
too_long q None word short long = tt
too_long q (Some m) word short long = rw (short.0, short.1, short.2, long) refl

stops : (q : Asked) (held : Option Held) (before now : ℕ) (u : Unread) → IfSome held (λ m. AreShortIn q m) → FurtherCase (further_file q.command) held q.further before now (Err u) → FilesCase q held before now (Err u)
stops q held before now (unread.TooLong word) short case = (case.0, file_of q word case.1, too_long q held word short case.2)
stops q held before now (unread.Fault word) short case = (case.0, case.1, (file_of q word case.2, none_before q held word short))
stops q held before now unread.NoMemory short case = case

-- the three files were read, one after another, and the further one was not
pub files_unread : (q : Asked) (h h1 h2 h3 : Option Held) (n n1 n2 n3 now : ℕ) (s t a : List ℕ) (u : Unread) (further : Option FileWord) → further ≡ further_file q.command → h1 ≡ h → h2 ≡ h1 → h3 ≡ h2
    → ReadCase FILE_LIMIT h q.stages n n1 (Ok s) → ReadCase FILE_LIMIT h1 q.tables n1 n2 (Ok t) → ReadCase FILE_LIMIT h2 q.arcs n2 n3 (Ok a)
    → FurtherCase further h3 q.further n3 now (Err u) → FilesCase q h n now (Err u)
files_unread q h h1 h2 h3 n n1 n2 n3 now s t a u further is one two three stages tables arcs case =
    let second : h2 ≡ h = two ∙ one in
    let third : h3 ≡ h = three ∙ second in
    let count : n3 ≡ n = arcs.0 ∙ tables.0 ∙ stages.0 in
    let short = short_in q h s t a (stages.1, stages.2) (tables.1, subst (λ (x : Option Held). WhereTold x q.tables (λ f. t ≡ f)) one tables.2) (arcs.1, subst (λ (x : Option Held). WhereTold x q.arcs (λ f. a ≡ f)) second arcs.2) in
    stops q h n now u short (subst (λ (x : ℕ). FurtherCase (further_file q.command) h q.further x now (Err u)) count (subst (λ (x : Option Held). FurtherCase (further_file q.command) x q.further n3 now (Err u)) third (subst (λ (w : Option FileWord). FurtherCase w h3 q.further n3 now (Err u)) is case)))
