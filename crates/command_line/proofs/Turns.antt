-- What clap makes of one word behind a subcommand's name.
use Rattle.std.proofs.Common.{◌≡◌, ℕ, zero, suc, Bool, true, false, cond, List, [], ◌∷◌, ◌++◌, Option, None, Some, codes, length, map, refl, sym, ap, ◌∙◌, inl, inr, append-nil}
use Rattle.std.specs.Prelude.{◌⊎◌, ◌&&◌, ◌||◌, drop, encode_utf8, nat_lt, slice_get}
use Rattle.std.specs.Option.{option_map_or}
use Rattle.clap.specs.declared.error.kind.ErrorKind.{ErrorKind}
use Rattle.std.specs.Str.{bytes_eq, chars}
use Rattle.std.proofs.lemmas.Slice.Eq.{bytes_eq-Decides}
use Rattle.clap.specs.Lexer.{long_of, short_of}
use Rattle.clap.specs.Values.{reading_of}
use Rattle.clap.specs.Kinds.{Kinds, or_else}
use Rattle.clap.specs.Faults.{bundle_fault, flag_word_fault, positional_fault, settle_fault, step_fault, stray_fault, turn_fault, use_fault, word_fault}
use Rattle.clap.specs.Walk.{Held, Names, Outcome, Row, Rule, Step, Waiting, Walk, arg_by_id, arg_by_index, arg_by_long, after_step, arg_by_short, at_row, bundle, bundle_met, bundle_step, long_or_other, next, option_word, short_met, subcommand_or_other, trailing, word_met, done, has_row, idle, more_values, option, plain, plain_word, refused, settled, short_or_plain, subcommand_met, used, walked, after_flag}
use Rattle.clap.specs.Simple.{Shape, built, filled, new_shape}
use Rattle.clap.specs.declared.builder.value_parser.ValueParser.TheVariants.{String}
use Rattle.clap.specs.declared.error.kind.ErrorKind.TheVariants as kind
use Rattle.clap.specs.declared.parser.matches.ValueSource.TheVariants.{CommandLine}
use Rattle.command_line.specs.Written.{Text, is_among}
use Rattle.command_line.specs.Parser.{flock_app, option_rule}
use Rattle.command_line.specs.Generated.{gen_names, load_names}
use Rattle.command_line.specs.Options.{run_names}

-- an option as clap builds it
abbrev pub plain_rule : Text → Rule
plain_rule name = filled (option_rule name)

abbrev pub rules : List Text → List Rule
rules = map plain_rule

-- a subcommand as clap builds it
abbrev pub built_with : Text → List Text → Shape
built_with name options = record (new_shape name) { rules = rules options; no_binary_name = true; disable_help_flag = true; disable_help_subcommand = true; is_built = true }

pub flock_built : (built flock_app).subs ≡ built_with (codes "run") run_names ∷ built_with (codes "gen") gen_names ∷ built_with (codes "load") load_names ∷ built_with (codes "check") [] ∷ []
flock_built = refl

-- where the walk stands
abbrev pub held : List Row → Option (Text × List Text) → Held
held rows pending = record { rows = rows; pending = pending; skip = 0 }

abbrev pub standing : List Row → Option (Text × List Text) → Waiting → Walk
standing rows pending waiting = record { held = held rows pending; waiting = waiting; position = 1; is_trailing = false; stopped = None }

abbrev pub row_for : Text → Text → Row
row_for name text = record { id = name; values = text ∷ []; count = None; source = Some CommandLine; reading = reading_of String }

eq_swap : (a b : Text) → bytes_eq a b ≡ bytes_eq b a
eq_swap a b = by_test (bytes_eq a b) (bytes_eq b a) refl refl
  where
    by_test : (x y : Bool) → bytes_eq a b ≡ x → bytes_eq b a ≡ y → bytes_eq a b ≡ bytes_eq b a
    by_test true true e f = e ∙ sym f
    by_test false false e f = e ∙ sym f
    by_test true false e f = let no : true ≡ false = sym ((bytes_eq-Decides b a).1 (sym ((bytes_eq-Decides a b).0 e))) ∙ f in cc
    by_test false true e f = let no : true ≡ false = sym ((bytes_eq-Decides a b).1 (sym ((bytes_eq-Decides b a).0 f))) ∙ e in cc

-- ---- the options of a subcommand

pub known_long : (names : List Text) (name : Text) → is_among names name ≡ true → arg_by_long (rules names) name ≡ Some (plain_rule name)
known_long [] name e = cc
known_long (first ∷ names) name e = by_test (known_long names name) (bytes_eq name first) refl
  where
    by_test : (is_among names name ≡ true → arg_by_long (rules names) name ≡ Some (plain_rule name)) → (b : Bool) → bytes_eq name first ≡ b → arg_by_long (rules (first ∷ names)) name ≡ Some (plain_rule name)
    by_test again true is =
        ap (λ b. cond (b || false) (Some (plain_rule first)) (arg_by_long (rules names) name)) (eq_swap first name ∙ is)
        ∙ ap (λ n. Some (plain_rule n)) (sym ((bytes_eq-Decides name first).0 is))
    by_test again false is =
        ap (λ b. cond (b || false) (Some (plain_rule first)) (arg_by_long (rules names) name)) (eq_swap first name ∙ is)
        ∙ again (sym (ap (λ b. b || is_among names name) is) ∙ e)

pub unknown_long : (names : List Text) (name : Text) → is_among names name ≡ false → arg_by_long (rules names) name ≡ None
unknown_long [] name e = refl
unknown_long (first ∷ names) name e = by_test (unknown_long names name) (bytes_eq name first) refl
  where
    by_test : (is_among names name ≡ false → arg_by_long (rules names) name ≡ None) → (b : Bool) → bytes_eq name first ≡ b → arg_by_long (rules (first ∷ names)) name ≡ None
    by_test again true is = let no : true ≡ false = sym (ap (λ b. b || is_among names name) is) ∙ e in cc
    by_test again false is =
        ap (λ b. cond (b || false) (Some (plain_rule first)) (arg_by_long (rules names) name)) (eq_swap first name ∙ is)
        ∙ again (sym (ap (λ b. b || is_among names name) is) ∙ e)

pub known_id : (names : List Text) (name : Text) → is_among names name ≡ true → arg_by_id (rules names) name ≡ Some (plain_rule name)
known_id [] name e = cc
known_id (first ∷ names) name e = by_test (known_id names name) (bytes_eq name first) refl
  where
    by_test : (is_among names name ≡ true → arg_by_id (rules names) name ≡ Some (plain_rule name)) → (b : Bool) → bytes_eq name first ≡ b → arg_by_id (rules (first ∷ names)) name ≡ Some (plain_rule name)
    by_test again true is =
        ap (λ b. cond b (Some (plain_rule first)) (arg_by_id (rules names) name)) (eq_swap first name ∙ is)
        ∙ ap (λ n. Some (plain_rule n)) (sym ((bytes_eq-Decides name first).0 is))
    by_test again false is =
        ap (λ b. cond b (Some (plain_rule first)) (arg_by_id (rules names) name)) (eq_swap first name ∙ is)
        ∙ again (sym (ap (λ b. b || is_among names name) is) ∙ e)

no_short : (names : List Text) (letter : ℕ) → arg_by_short (rules names) letter ≡ None
no_short [] letter = refl
no_short (first ∷ names) letter = no_short names letter

no_place : (names : List Text) (place : ℕ) → arg_by_index (rules names) place ≡ None
no_place [] place = refl
no_place (first ∷ names) place = no_place names place

-- ---- one use of an option

pub or_else_none : (found : Kinds) → or_else found [] ≡ found
or_else_none [] = refl
or_else_none (k ∷ ks) = refl

pub both_none : (first second : Kinds) → or_else first second ≡ [] → (first ≡ []) × (second ≡ [])
both_none [] second e = (refl, e)
both_none (k ∷ ks) second e = cc

pub use_fresh : (name text : Text) (rows : List Row) → has_row name rows ≡ false → use_fault false (plain_rule name) (text ∷ []) rows ≡ []
use_fresh name text rows fresh = ap (λ b. or_else (cond (b && true) (kind.ArgumentConflict ∷ []) []) []) fresh

pub use_is_fresh : (name text : Text) (rows : List Row) → use_fault false (plain_rule name) (text ∷ []) rows ≡ [] → has_row name rows ≡ false
use_is_fresh name text rows e = by_test (has_row name rows) refl
  where
    by_test : (b : Bool) → has_row name rows ≡ b → has_row name rows ≡ false
    by_test true is = let no : kind.ArgumentConflict ∷ [] ≡ [] = sym (ap (λ b. or_else (cond (b && true) (kind.ArgumentConflict ∷ []) []) []) is) ∙ e in cc
    by_test false is = is

no_row : (name : Text) (change : Row → List Row) (missing rows : List Row) → has_row name rows ≡ false → at_row name change missing rows ≡ rows ++ missing
no_row name change missing [] fresh = refl
no_row name change missing (row ∷ rows) fresh = by_test (no_row name change missing rows) (bytes_eq row.id name) refl
  where
    by_test : (has_row name rows ≡ false → at_row name change missing rows ≡ rows ++ missing) → (b : Bool) → bytes_eq row.id name ≡ b → at_row name change missing (row ∷ rows) ≡ row ∷ (rows ++ missing)
    by_test again true is = let no : true ≡ false = sym (ap (λ b. b || has_row name rows) is) ∙ fresh in cc
    by_test again false is =
        ap (λ b. cond b (change row ++ rows) (row ∷ at_row name change missing rows)) is
        ∙ ap (λ rest. row ∷ rest) (again (sym (ap (λ b. b || has_row name rows) is) ∙ fresh))

pub used_fresh : (name text : Text) (rows : List Row) → has_row name rows ≡ false → used (plain_rule name) (text ∷ []) rows ≡ rows ++ row_for name text ∷ []
used_fresh name text rows fresh =
    ap (at_row name (more_values CommandLine (text ∷ [])) (row_for name text ∷ [])) (no_row name (λ _. []) [] rows fresh ∙ append-nil rows)
    ∙ no_row name (more_values CommandLine (text ∷ [])) (row_for name text ∷ []) rows fresh

-- ---- one word

-- a command with these options, with subcommands or without
abbrev pub level_with : Text → List Text → Bool → Bool → Shape
level_with command names leaf required = record (built_with command names) { is_leaf = leaf; subcommand_required = required }

-- a word that begins with one dash names no option
step_letter : (names : List Text) (flags : Text) (h : Held) (more : Text → ℕ → Outcome → Held → Held × Outcome) (letter : Option ℕ)
    → (bundle_step (rules names) letter flags 0 plain h more ≡ (h, plain)) ⊎ (bundle_step (rules names) letter flags 0 plain h more ≡ (h, refused))
step_letter names flags h more None = inl refl
step_letter names flags h more (Some letter) =
    let rest = drop (length (encode_utf8 letter)) flags in
    inr (ap (λ found. short_met (rules names) found rest h (more rest 0 done)) (no_short names letter))

no_bundle : (names : List Text) (steps : ℕ) (flags : Text) (h : Held) → (bundle_met (rules names) steps flags 0 plain h ≡ (h, plain)) ⊎ (bundle_met (rules names) steps flags 0 plain h ≡ (h, refused))
unfolding bundle_met
no_bundle names zero flags h = inl refl
no_bundle names (suc steps) flags h = step_letter names flags h (bundle_met (rules names) steps) (slice_get (chars flags) 0)

flags_met : (names : List Text) (waiting : Waiting) (word : Text) (h : Held) (met : Held × Outcome) → (met ≡ (h, plain)) ⊎ (met ≡ (h, refused)) → after_flag (rules names) waiting word met.0 met.1 ≡ plain_word (rules names) waiting word h
flags_met names waiting word h met (inl e) = ap (λ (p : Held × Outcome). after_flag (rules names) waiting word p.0 p.1) e
flags_met names waiting word h met (inr e) = ap (λ (p : Held × Outcome). after_flag (rules names) waiting word p.0 p.1) e

short_met_plain : (names : List Text) (waiting : Waiting) (word : Text) (rows : List Row) (pending : Option (Text × List Text)) (flags : Option Text)
    → short_or_plain (rules names) waiting word flags (held rows pending) ≡ plain_word (rules names) waiting word (held rows pending)
short_met_plain names waiting word rows pending None = refl
short_met_plain names waiting word rows pending (Some flags) =
    flags_met names waiting word (held rows pending) (bundle (rules names) flags (held rows pending)) (no_bundle names (length flags) flags (held rows pending))

some_stray : (leaf : Bool) (a b c : ErrorKind) → cond leaf (a ∷ []) (b ∷ c ∷ []) ≡ [] → ⊥
some_stray true a b c e = cc
some_stray false a b c e = cc

module _ (command : Text) (names : List Text) (leaf required : Bool) (subs : Names) where
  abbrev shape : Shape
  shape = level_with command names leaf required

  abbrev here : List Row → Option (Text × List Text) → Waiting → Text → Kinds
  here rows pending waiting word = turn_fault shape subs (standing rows pending waiting) word

  abbrev onward : List Row → Option (Text × List Text) → Waiting → Text → Walk
  onward rows pending waiting word = walked (rules names) subs (standing rows pending waiting) word

  -- an option that isn't there
  pub unknown_fault : (rows : List Row) (pending : Option (Text × List Text)) (waiting : Waiting) (word name : Text) (attached : Option Text) → subcommand_met subs waiting word ≡ None → bytes_eq word (codes "--") ≡ false
      → long_of word ≡ Some (name, attached) → is_among names name ≡ false → here rows pending waiting word ≡ kind.UnknownArgument ∷ []
  unknown_fault rows pending waiting word name attached none dashes long among = rw (none, dashes, long, unknown_long names name among) refl

  -- an option with its value
  pub joined_fault : (rows : List Row) (pending : Option (Text × List Text)) (waiting : Waiting) (word name text : Text) → subcommand_met subs waiting word ≡ None → bytes_eq word (codes "--") ≡ false
      → long_of word ≡ Some (name, Some text) → is_among names name ≡ true
      → here rows pending waiting word ≡ or_else (or_else (settle_fault (rules names) false (held rows pending)) (use_fault false (plain_rule name) (text ∷ []) (settled (rules names) (held rows pending)).rows)) []
  joined_fault rows pending waiting word name text none dashes long among = rw (none, dashes, long, known_long names name among) refl

  pub joined_walked : (rows : List Row) (pending : Option (Text × List Text)) (waiting : Waiting) (word name text : Text) → subcommand_met subs waiting word ≡ None → bytes_eq word (codes "--") ≡ false
      → long_of word ≡ Some (name, Some text) → is_among names name ≡ true
      → onward rows pending waiting word ≡ standing (used (plain_rule name) (text ∷ []) (settled (rules names) (held rows pending)).rows) None idle
  unfolding walked
  joined_walked rows pending waiting word name text none dashes long among = rw (none, dashes, long, known_long names name among) refl

  -- an option that waits for its value
  pub alone_fault : (rows : List Row) (pending : Option (Text × List Text)) (waiting : Waiting) (word name : Text) → subcommand_met subs waiting word ≡ None → bytes_eq word (codes "--") ≡ false
      → long_of word ≡ Some (name, None) → is_among names name ≡ true
      → here rows pending waiting word ≡ or_else (settle_fault (rules names) false (held rows pending)) []
  alone_fault rows pending waiting word name none dashes long among = rw (none, dashes, long, known_long names name among) refl

  pub alone_walked : (rows : List Row) (pending : Option (Text × List Text)) (waiting : Waiting) (word name : Text) → subcommand_met subs waiting word ≡ None → bytes_eq word (codes "--") ≡ false
      → long_of word ≡ Some (name, None) → is_among names name ≡ true
      → onward rows pending waiting word ≡ standing (settled (rules names) (held rows pending)).rows (Some (name, [])) (option name)
  unfolding walked
  alone_walked rows pending waiting word name none dashes long among = rw (none, dashes, long, known_long names name among) refl

  -- a word that is no option goes to what waits
  plain_met : (rows : List Row) (pending : Option (Text × List Text)) (waiting : Waiting) (word : Text) → subcommand_met subs waiting word ≡ None → bytes_eq word (codes "--") ≡ false → long_of word ≡ None
      → word_met (rules names) subs false waiting 1 word (held rows pending) ≡ plain_word (rules names) waiting word (held rows pending)
  plain_met rows pending waiting word none dashes long =
      let c = rules names in
      let h = held rows pending in
      ap (λ found. subcommand_or_other c found waiting 1 word h) none
      ∙ ap (λ b. cond b (h, trailing 1) (long_or_other c waiting word (long_of word) h)) dashes
      ∙ ap (λ l. long_or_other c waiting word l h) long
      ∙ short_met_plain names waiting word rows pending (short_of word)

  -- where nothing waits it is refused
  pub stray : (rows : List Row) (pending : Option (Text × List Text)) (word : Text) → subcommand_met subs idle word ≡ None → bytes_eq word (codes "--") ≡ false → long_of word ≡ None → here rows pending idle word ≡ [] → ⊥
  stray rows pending word none dashes long e =
      let h = held rows pending in
      let step : step_fault shape 1 (word_met (rules names) subs false idle 1 word h).0 (word_met (rules names) subs false idle 1 word h).1 ≡ stray_fault shape =
      ap (λ (met : Held × Step). step_fault shape 1 met.0 met.1) (plain_met rows pending idle word none dashes long)
      ∙ ap (λ found. option_map_or (λ a. positional_fault (rules names) false a h) found (stray_fault shape)) (no_place names 1) in
      some_stray leaf kind.UnknownArgument kind.UnknownArgument kind.InvalidSubcommand (sym step ∙ (both_none (word_fault shape subs false idle word h) _ e).1)

  -- and else it is the value
  pub value_walked : (rows : List Row) (word name : Text) → bytes_eq word (codes "--") ≡ false → long_of word ≡ None → is_among names name ≡ true
      → onward rows (Some (name, [])) (option name) word ≡ standing rows (Some (name, word ∷ [])) idle
  unfolding walked
  value_walked rows word name dashes long among =
      let c = rules names in
      let w = standing rows (Some (name, [])) (option name) in
      ap (λ (met : Held × Step). after_step c word w met.0 met.1) (plain_met rows (Some (name, [])) (option name) word refl dashes long)
      ∙ ap (λ found. after_step c word w (option_word found name word (held rows (Some (name, [])))).0 (next (option_word found name word (held rows (Some (name, [])))).1)) (known_id names name among)
      ∙ ap (λ b. standing rows (Some (name, word ∷ [])) (cond (nat_lt (cond b 1 0) 1) (option name) idle)) ((bytes_eq-Decides name name).1 refl)

  pub value_fault : (rows : List Row) (word name : Text) → bytes_eq word (codes "--") ≡ false → long_of word ≡ None → short_of word ≡ None → here rows (Some (name, [])) (option name) word ≡ []
  value_fault rows word name dashes long short =
      let h = held rows (Some (name, [])) in
      ap (λ (met : Held × Step). or_else (word_fault shape subs false (option name) word h) (step_fault shape 1 met.0 met.1)) (plain_met rows (Some (name, [])) (option name) word refl dashes long)
      ∙ or_else_none (word_fault shape subs false (option name) word h)
      ∙ ap (λ b. cond b [] (flag_word_fault (rules names) false (long_of word) word h)) dashes
      ∙ ap (λ l. flag_word_fault (rules names) false l word h) long
      ∙ ap (λ flags. option_map_or (λ flags. bundle_fault (rules names) false flags h) flags []) short

  -- an option where another waits for its value
  pub waits_unsettled : (rows : List Row) (name : Text) → is_among names name ≡ true → settle_fault (rules names) false (held rows (Some (name, []))) ≡ kind.InvalidValue ∷ []
  waits_unsettled rows name among = ap (λ found. option_map_or (λ a. use_fault false a [] rows) found []) (known_id names name among)

  pub no_value : (rows : List Row) (word name other : Text) (attached : Option Text) → bytes_eq word (codes "--") ≡ false → long_of word ≡ Some (other, attached) → is_among names name ≡ true
      → here rows (Some (name, [])) (option name) word ≡ [] → ⊥
  no_value rows word name other attached dashes long among e = by_test (is_among names other) attached refl long
    where
      by_test : (b : Bool) (attached : Option Text) → is_among names other ≡ b → long_of word ≡ Some (other, attached) → ⊥
      by_test false attached is long = let no : kind.UnknownArgument ∷ [] ≡ [] = sym (unknown_fault rows (Some (name, [])) (option name) word other attached refl dashes long is) ∙ e in cc
      by_test true None is long =
          let none = (both_none _ _ (sym (alone_fault rows (Some (name, [])) (option name) word other refl dashes long is) ∙ e)).0 in
          let no : kind.InvalidValue ∷ [] ≡ [] = sym (waits_unsettled rows name among) ∙ none in
          cc
      by_test true (Some text) is long =
          let none = (both_none _ _ (both_none _ _ (sym (joined_fault rows (Some (name, [])) (option name) word other text refl dashes long is) ∙ e)).0).0 in
          let no : kind.InvalidValue ∷ [] ≡ [] = sym (waits_unsettled rows name among) ∙ none in
          cc
