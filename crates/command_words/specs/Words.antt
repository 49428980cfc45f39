-- What the rules on words test: the keys of words and their values.
use Rattle.std.specs.Prelude.{ℕ, ◌==◌, Bool, not, false, List, [], ◌∷◌, length, map, Option, Some, None, is_none, is_ok, unwrap_or, ◌||◌, ◌&&◌, bytes_eq, find, string_bytes, String}
use Rattle.std.specs.List.{list_any, before_first, after_first}
use Rattle.service_model.specs.Search.{first_of}
use Rattle.gsm_nums.specs.Whole.{whole_of, without_spaces}
use Rattle.command_words.specs.declared.command.Command.{Command}
use Rattle.command_words.specs.declared.command.Key.{Key}
use Rattle.command_words.specs.declared.command.Key.TheVariants.{Stages, Tables, Arcs}
use Rattle.command_words.specs.declared.command.ValueKind.{ValueKind}
use Rattle.command_words.specs.declared.command.ValueKind.TheVariants.{FileName, WholeNumber}
use Rattle.command_words.specs.declared.file_word.FileWord.{FileWord}
use Rattle.command_words.specs.Commands.{required_keys, further_keys, key_text, value_kind, file_key, further_file}
use Rattle.command_words.specs.Names.{naming, is_kept}

-- the bytes of words
abbrev pub texts : {Z : Type 0} → List (String Z) → List (List ℕ)
texts words = map (λ s. string_bytes s) words

-- a byte is `=`
abbrev pub is_equals : ℕ → Bool
is_equals byte = byte == 61

-- a word has a `=`
unfoldable pub has_equals : List ℕ → Bool
has_equals word = list_any is_equals word

-- the key of a word: what stands before its first `=`
unfoldable pub key_in : List ℕ → List ℕ
key_in word = before_first is_equals word

-- the value of a word: what stands behind its first `=`
unfoldable pub value_in : List ℕ → List ℕ
value_in word = after_first is_equals word

-- a key has that text
unfoldable pub is_named : List ℕ → Key → Bool
is_named text key = bytes_eq text (key_text key)

-- the key of that text among some
unfoldable pub key_among : List Key → List ℕ → Option Key
key_among keys text = find (is_named text) keys

-- the command's key of that text, required or further
unfoldable pub key_named : Command → List ℕ → Option Key
key_named command text = first_of (key_among (required_keys command) text ∷ key_among (further_keys command) text ∷ [])

-- a value is one of its kind: a name that is not empty, or a whole number in its range
unfoldable pub is_allowed : ValueKind → List ℕ → Bool
is_allowed FileName value = not (length value == 0)
is_allowed (WholeNumber least most) value = is_ok (whole_of (without_spaces value) least most)

-- the key of a word is not one of the command's
unfoldable pub is_unknown : Command → List ℕ → Bool
is_unknown command word = is_none (key_named command (key_in word))

-- a word's key is that text
unfoldable pub is_keyed : List ℕ → List ℕ → Bool
is_keyed text word = bytes_eq (key_in word) text

-- one of some words has that key
unfoldable pub has_key : List (List ℕ) → List ℕ → Bool
has_key words text = list_any (is_keyed text) words

-- the value of the first word that has the key
unfoldable pub value_at : Key → List (List ℕ) → List ℕ
value_at key later = value_in (unwrap_or (find (is_keyed (key_text key)) later) [])

-- the value of a word is not one that its key may have
unfoldable pub is_bad_value : Command → List ℕ → Bool
is_bad_value command word = refuses (key_named command (key_in word)) (value_in word)
  where
    refuses : Option Key → List ℕ → Bool
    refuses None value = false
    refuses (Some key) value = not (is_allowed (value_kind key) value)

-- no word has the key
unfoldable pub is_missing : List (List ℕ) → Key → Bool
is_missing words key = not (has_key words (key_text key))

-- the name at a key is kept for what a command writes under a name
unfoldable pub is_kept_at : Command → Key → List (List ℕ) → List ℕ → Bool
is_kept_at command key later name = is_kept (naming command) name (value_at key later)

-- a command's further file, if it has one, has such a name
unfoldable pub is_further_kept : Command → Option FileWord → List (List ℕ) → List ℕ → Bool
is_further_kept command None later name = false
is_further_kept command (Some word) later name = is_kept_at command (file_key word) later name

-- a file that a command reads, one of the three of a network or its further file, has such a name
unfoldable pub is_read : Command → List (List ℕ) → List ℕ → Bool
is_read command later name =
    is_kept_at command Stages later name
    || is_kept_at command Tables later name
    || is_kept_at command Arcs later name
    || is_further_kept command (further_file command) later name

-- a name under which a command writes, where its key is given, keeps that of a file that it reads
unfoldable pub is_reused : Command → Option FileWord → List (List ℕ) → Bool
is_reused command None later = false
is_reused command (Some word) later = has_key later (key_text (file_key word)) && is_read command later (value_at (file_key word) later)
