-- The options of a command line: how they are written, and what each was given.
use Rattle.std.specs.Prelude.{◌≡◌, ℕ, Bool, true, not, ◌&&◌, List, [], ◌∷◌, ◌++◌, Option, codes, find, flat_map, if◌then◌else◌, map, option_map}
use Rattle.std.specs.List.{list_all, list_any}
use Rattle.std.specs.Str.{bytes_eq}

abbrev pub Text : Type 0
Text = List ℕ

-- an option as it is written: `--name=value` in one word where it is joined, else `--name value` in two
pub record Written : Type 0 where
  pub name : Text
  pub value : Text
  pub joined : Bool

abbrev pub words_of : Written → List Text
words_of written =
    if written.joined then (codes "--" ++ written.name ++ (codes "=" ++ written.value)) ∷ []
    else (codes "--" ++ written.name) ∷ written.value ∷ []

-- the words of these options, one after the other
abbrev pub all_words_of : List Written → List Text
all_words_of options = flat_map words_of options

abbrev pub is_among : List Text → Text → Bool
is_among names name = list_any (bytes_eq name) names

-- none of the names comes twice
abbrev pub each_once : List Text → Bool
each_once [] = true
each_once (name ∷ names) = not (is_among names name) && each_once names

-- the options have names among these, and each comes at most once
pub record AreOptionsOf (names : List Text) (options : List Written) : Type 0 where
  pub known : list_all (λ (written : Written). is_among names written.name) options ≡ true
  pub once : each_once (map (λ written. written.name) options) ≡ true

-- what the option of this name was given, if it is there
abbrev pub given : List Written → Text → Option Text
given options name = option_map (λ written. written.value) (find (λ written. bytes_eq written.name name) options)
