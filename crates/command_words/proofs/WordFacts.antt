-- Words by their bytes.
use Rattle.std.proofs.Common.{◌≡◌, ℕ, ◌+◌, ◌<◌, Bool, true, false, cond, List, [], ◌∷◌, length, map, take, get_or, Option, Some, None, option_map, String, string_bytes, refl, sym, ap, ◌∙◌, arith}
use Rattle.std.specs.List.{list_any, find}
use Rattle.std.specs.Option.{unwrap_or}
use Rattle.std.proofs.lemmas.List.{get_or-map, take-map, length-map}
use Rattle.service_model.specs.Search.{first_of, first_below}
use Rattle.service_model.proofs.SearchFacts.{first_below_step, first_below_found}
use Rattle.command_words.specs.declared.command.Command.{Command}
use Rattle.command_words.specs.declared.command.Key.{Key}
use Rattle.command_words.specs.Commands.{key_text}
use Rattle.command_words.specs.Words.{texts, is_keyed, value_in, value_at}
use Rattle.command_words.specs.WordRules.{later_rules, fault_at, later_fault_at}

-- a test of a list's images
pub any_mapped : {X Y : Type 0} (f : X → Y) (p : Y → Bool) (xs : List X) → list_any (λ x. p (f x)) xs ≡ list_any p (map f xs)
any_mapped f p [] = refl
any_mapped f p (x ∷ xs) = rw (any_mapped f p xs) refl

found_step : {X Y : Type 0} (f : X → Y) (here : Bool) (x : X) (more : Option X) (others : Option Y) → option_map f more ≡ others → option_map f (cond here (Some x) more) ≡ cond here (Some (f x)) others
found_step f true x more others same = refl
found_step f false x more others same = same

-- a search through a list's images
pub found_mapped : {X Y : Type 0} (f : X → Y) (p : Y → Bool) (xs : List X) → option_map f (find (λ x. p (f x)) xs) ≡ find p (map f xs)
found_mapped f p [] = refl
found_mapped f p (x ∷ xs) = found_step f (p (f x)) x (find (λ y. p (f y)) xs) (find p (map f xs)) (found_mapped f p xs)

-- the value at a key, by the word that was found
pub value_found : {Z : Type 0} (key : Key) (later : List (String Z)) (found : Option (String Z)) → found ≡ find (λ s. is_keyed (key_text key) (string_bytes s)) later
    → value_in (unwrap_or (option_map (λ s. string_bytes s) found) []) ≡ value_at key (texts later)
unfolding value_at
value_found key later found is =
    let mapped = found_mapped (λ s. string_bytes s) (is_keyed (key_text key)) later in
    ap (λ (o : Option (List ℕ)). value_in (unwrap_or o [])) (ap (option_map (λ s. string_bytes s)) is ∙ mapped)

pub nothing_in : value_in [] ≡ []
unfolding value_in
nothing_in = refl

-- the rules on the word that was read at a place
pub word_here : {Z : Type 0} (command : Command) (later : List (String Z)) (k : ℕ) (s : String Z) → k < length later → s ≡ get_or later k s
    → later_fault_at command (texts later) k ≡ option_map (fault_at (k + 2)) (first_of (later_rules command (texts (take k later)) (string_bytes s)))
word_here command later k s within at =
    let read : get_or (texts later) k [] ≡ string_bytes s = get_or-map (λ (x : String _). string_bytes x) later k s [] within ∙ ap (λ (x : String _). string_bytes x) (sym at) in
    rw (read, take-map (λ (x : String _). string_bytes x) k later) refl

-- the first rule that fails on it, where no rule fails on a word before
pub fails_here : {Z : Type 0} (command : Command) (later : List (String Z)) (k : ℕ) (s : String Z) (rule : ℕ) → k < length later → s ≡ get_or later k s
    → first_below (later_fault_at command (texts later)) k ≡ None → first_of (later_rules command (texts (take k later)) (string_bytes s)) ≡ Some rule
    → first_below (later_fault_at command (texts later)) (length (texts later)) ≡ Some (fault_at (k + 2) rule)
fails_here command later k s rule within at before fails =
    let here : later_fault_at command (texts later) k ≡ Some (fault_at (k + 2) rule) = word_here command later k s within at ∙ ap (option_map (fault_at (k + 2))) fails in
    let there : k < length (texts later) = omega (arith, within, length-map later (λ (x : String _). string_bytes x)) in
    first_below_found (later_fault_at command (texts later)) (length (texts later)) k (fault_at (k + 2) rule) before there here

-- no rule fails on one word more
pub holds_here : {Z : Type 0} (command : Command) (later : List (String Z)) (k : ℕ) (s : String Z) → k < length later → s ≡ get_or later k s
    → first_below (later_fault_at command (texts later)) k ≡ None → first_of (later_rules command (texts (take k later)) (string_bytes s)) ≡ None
    → first_below (later_fault_at command (texts later)) (k + 1) ≡ None
holds_here command later k s within at before holds =
    first_below_step (later_fault_at command (texts later)) k before ∙ word_here command later k s within at ∙ ap (option_map (fault_at (k + 2))) holds
