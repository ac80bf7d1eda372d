-- The words of options have no fault, as clap walks over them.
use Rattle.std.proofs.Common.{◌≡◌, ℕ, Bool, true, false, cond, not, List, [], ◌∷◌, ◌++◌, Option, None, Some, codes, map, option_map, refl, sym, ap, ap₂, ◌∙◌, subst, inl, inr, append_assoc, append-nil, get_or}
use Rattle.std.specs.Prelude.{◌⊎◌, ◌==◌, ◌&&◌, ◌||◌, find, fold, option_and_then, option_to_list, slice_get}
use Rattle.std.specs.List.{list_all, list_any}
use Rattle.std.specs.Str.{bytes_eq}
use Rattle.std.proofs.lemmas.List.Folds.{list_any-append}
use Rattle.std.proofs.lemmas.Slice.Eq.{bytes_eq-Decides}
use Rattle.clap.specs.Lexer.{long_of, long_of_rest, short_of, short_of_rest, strip_byte}
use Rattle.clap.specs.Kinds.{Kinds, check_kinds, or_else}
use Rattle.clap.specs.Faults.{check_fault, default_fault, defaults_fault, given_default_fault, level_fault, turn_fault, use_fault, walk_fault}
use Rattle.clap.specs.Takes.{is_given}
use Rattle.clap.specs.Simple.{Shape}
use Rattle.clap.specs.Walk.{Row, Rule, Walk, finished, first_of, has_row, idle, nothing_held, option, rows_after, used, walk, walked, with_default}
use Rattle.command_line.specs.Parser.{is_dashes}
use Rattle.command_line.specs.Written.{AreOptionsOf, Text, Written, all_words_of, each_once, given, is_among}
use Rattle.command_line.proofs.Bools.{both_true, one_true}
use Rattle.command_line.proofs.Longs.{is_clean, long_alone, long_joined}
use Rattle.command_line.proofs.Turns.{alone_fault, alone_walked, joined_fault, joined_walked, level_with, or_else_none, both_none, plain_rule, rules, standing, used_fresh, use_fresh, value_fault, value_walked}
use Rattle.command_line.proofs.Walks.{Fresh, IsKnown, add_join, add_rows, are_known, begun, both_read, end_fault, end_rows, ending, faults, fresh_back, fresh_front, neither, pending_of, row_of, settle_fresh, settled_rows_of, waiting_for}

-- a text that doesn't begin with a dash
abbrev pub is_plain : Text → Bool
is_plain [] = true
is_plain (byte ∷ bytes) = not (byte == 45)

no_dash : (byte : ℕ) (bytes : Text) → is_plain (byte ∷ bytes) ≡ true → (byte == 45) ≡ false
no_dash byte bytes plain = by_test (byte == 45) refl
  where
    by_test : (b : Bool) → (byte == 45) ≡ b → (byte == 45) ≡ false
    by_test true is = let no : false ≡ true = sym (ap not is) ∙ plain in cc
    by_test false is = is

pub plain_no_dashes : (text : Text) → is_plain text ≡ true → is_dashes text ≡ false
plain_no_dashes [] plain = refl
plain_no_dashes (byte ∷ bytes) plain = by_test (is_dashes (byte ∷ bytes)) refl
  where
    by_test : (b : Bool) → is_dashes (byte ∷ bytes) ≡ b → is_dashes (byte ∷ bytes) ≡ false
    by_test true is =
        let head : byte ≡ 45 = ap (λ text. get_or text 0 0) ((bytes_eq-Decides (byte ∷ bytes) (codes "--")).0 is) in
        let no : true ≡ false = sym (ap (λ b. b == 45) head) ∙ no_dash byte bytes plain in
        cc
    by_test false is = is

plain_no_long : (text : Text) → is_plain text ≡ true → long_of text ≡ None
plain_no_long [] plain = refl
plain_no_long (byte ∷ bytes) plain = ap (λ b. option_and_then long_of_rest (option_and_then (strip_byte 45) (cond b (Some bytes) None))) (no_dash byte bytes plain)

plain_no_short : (text : Text) → is_plain text ≡ true → short_of text ≡ None
plain_no_short [] plain = refl
plain_no_short (byte ∷ bytes) plain = ap (λ b. option_and_then short_of_rest (cond b (Some bytes) None)) (no_dash byte bytes plain)

abbrev pub are_plain : List Written → Bool
are_plain options = list_all (λ (written : Written). is_plain written.value) options

joined_no_dashes : (name text : Text) → is_clean name ≡ true → is_dashes (codes "--" ++ name ++ (codes "=" ++ text)) ≡ false
joined_no_dashes [] text clean = cc
joined_no_dashes (byte ∷ name) text clean = refl

alone_no_dashes : (name : Text) → is_clean name ≡ true → is_dashes (codes "--" ++ name) ≡ false
alone_no_dashes [] clean = cc
alone_no_dashes (byte ∷ name) clean = refl

clean_among : (names : List Text) (name : Text) → list_all is_clean names ≡ true → is_among names name ≡ true → is_clean name ≡ true
clean_among [] name clean among = cc
clean_among (first ∷ names) name clean among = choose (λ clean. clean_among names name clean) (both_true _ _ clean) (one_true _ _ among)
  where
    choose : (list_all is_clean names ≡ true → is_among names name ≡ true → is_clean name ≡ true) → (is_clean first ≡ true) × (list_all is_clean names ≡ true) → (bytes_eq name first ≡ true) ⊎ (is_among names name ≡ true) → is_clean name ≡ true
    choose again parts (inl same) = ap is_clean ((bytes_eq-Decides name first).0 same) ∙ parts.0
    choose again parts (inr later) = again parts.1 later

-- the walk over the words has no fault, and gives the rows of the options
record Passes (command : Text) (names : List Text) (rows : List Row) (pend : Option Written) (options : List Written) (line : List Text) : Type 0 where
  dashes : list_any is_dashes line ≡ false
  none : faults command names (begun command names rows pend) line ≡ []
  ended : end_fault command names (begun command names rows pend) line ≡ []
  rows_are : end_rows command names (begun command names rows pend) line ≡ add_rows rows (option_to_list pend ++ options)

module _ (command : Text) (names : List Text) where
  abbrev lvl : Shape
  lvl = level_with command names true false

  turn_then : (walk : Walk) (word : Text) (line : List Text) → turn_fault lvl [] walk word ≡ [] → faults command names (walked (rules names) [] walk word) line ≡ [] → faults command names walk (word ∷ line) ≡ []
  unfolding walk_fault
  turn_then walk word line none next = ap₂ or_else none next

  end_passes : (rows : List Row) (pend : Option Written) → IsKnown names pend → Fresh rows (option_to_list pend ++ []) → Passes command names rows pend [] []
  unfolding walk_fault
  end_passes rows pend known fresh =
      let s = settle_fresh names rows pend known (fresh_front rows (option_to_list pend) [] fresh) in
      record { dashes = refl; none = refl; ended = s.0; rows_are = s.1 ∙ sym (add_join rows (option_to_list pend) []) }

  joined_passes : (written : Written) (options : List Written) (rows : List Row) (pend : Option Written) → is_clean written.name ≡ true → is_among names written.name ≡ true → IsKnown names pend → Fresh rows (option_to_list pend ++ written ∷ options)
      → Passes command names (add_rows rows (option_to_list pend) ++ row_of written ∷ []) None options (all_words_of options)
      → Passes command names rows pend (written ∷ options) ((codes "--" ++ written.name ++ (codes "=" ++ written.value)) ∷ all_words_of options)
  joined_passes written options rows pend clean among known fresh again =
      let line = all_words_of options in
      let name = written.name in
      let text = written.value in
      let word = codes "--" ++ name ++ (codes "=" ++ text) in
      let before = option_to_list pend in
      let dashes = joined_no_dashes name text clean in
      let long = long_joined name text clean in
      let s = settle_fresh names rows pend known (fresh_front rows before (written ∷ options) fresh) in
      let new = (fresh_back rows before (written ∷ options) fresh).0 in
      let spent : use_fault false (plain_rule name) (text ∷ []) (settled_rows_of names rows pend) ≡ [] = ap (use_fault false (plain_rule name) (text ∷ [])) s.1 ∙ use_fresh name text (add_rows rows before) new in
      let turn = joined_fault command names true false [] rows (pending_of pend) idle word name text refl dashes long among ∙ or_else_none _ ∙ ap₂ or_else s.0 spent in
      let step : walked (rules names) [] (begun command names rows pend) word ≡ begun command names (add_rows rows before ++ row_of written ∷ []) None =
      joined_walked command names true false [] rows (pending_of pend) idle word name text refl dashes long among
      ∙ ap (λ found. standing (used (plain_rule name) (text ∷ []) found) None idle) s.1
      ∙ ap (λ found. standing found None idle) (used_fresh name text (add_rows rows before) new) in
      record {
        dashes = ap₂ ◌||◌ dashes again.dashes;
        none = turn_then (begun command names rows pend) word line turn (ap (λ walk. faults command names walk line) step ∙ again.none);
        ended = ap (λ walk. end_fault command names walk line) step ∙ again.ended;
        rows_are = ap (λ walk. end_rows command names walk line) step ∙ again.rows_are ∙ sym (add_join rows before (written ∷ options));
      }

  alone_passes : (written : Written) (options : List Written) (rows : List Row) (pend : Option Written) → is_clean written.name ≡ true → is_among names written.name ≡ true → is_plain written.value ≡ true → IsKnown names pend → Fresh rows (option_to_list pend ++ written ∷ options)
      → Passes command names (add_rows rows (option_to_list pend)) (Some written) options (all_words_of options)
      → Passes command names rows pend (written ∷ options) ((codes "--" ++ written.name) ∷ written.value ∷ all_words_of options)
  alone_passes written options rows pend clean among plain known fresh again =
      let line = all_words_of options in
      let name = written.name in
      let text = written.value in
      let word = codes "--" ++ name in
      let before = option_to_list pend in
      let dashes = alone_no_dashes name clean in
      let long = long_alone name clean in
      let s = settle_fresh names rows pend known (fresh_front rows before (written ∷ options) fresh) in
      let turn = alone_fault command names true false [] rows (pending_of pend) idle word name refl dashes long among ∙ or_else_none _ ∙ s.0 in
      let waits = waiting_for command names (add_rows rows before) name in
      let step : walked (rules names) [] (begun command names rows pend) word ≡ waits =
      alone_walked command names true false [] rows (pending_of pend) idle word name refl dashes long among
      ∙ ap (λ found. standing found (Some (name, [])) (option name)) s.1 in
      let here = value_fault command names true false [] (add_rows rows before) text name (plain_no_dashes text plain) (plain_no_long text plain) (plain_no_short text plain) in
      let value : walked (rules names) [] waits text ≡ begun command names (add_rows rows before) (Some written) = value_walked command names true false [] (add_rows rows before) text name (plain_no_dashes text plain) (plain_no_long text plain) among in
      let none = turn_then waits text line here (ap (λ walk. faults command names walk line) value ∙ again.none) in
      record {
        dashes = ap₂ ◌||◌ dashes (ap₂ ◌||◌ (plain_no_dashes text plain) again.dashes);
        none = turn_then (begun command names rows pend) word (text ∷ line) turn (ap (λ walk. faults command names walk (text ∷ line)) step ∙ none);
        ended = ap (λ walk. end_fault command names walk (text ∷ line)) step ∙ ap (λ walk. end_fault command names walk line) value ∙ again.ended;
        rows_are = ap (λ walk. end_rows command names walk (text ∷ line)) step ∙ ap (λ walk. end_rows command names walk line) value ∙ again.rows_are ∙ sym (add_join rows before (written ∷ options));
      }

  options_pass : (options : List Written) (rows : List Row) (pend : Option Written) → list_all is_clean names ≡ true → are_known names options ≡ true → are_plain options ≡ true → IsKnown names pend → Fresh rows (option_to_list pend ++ options)
      → Passes command names rows pend options (all_words_of options)
  options_pass [] rows pend clean among plain known fresh = end_passes rows pend known fresh
  options_pass (written ∷ options) rows pend clean among plain known fresh = by_form written.joined refl
      (λ rows pend known fresh. options_pass options rows pend clean (both_true _ _ among).1 (both_true (is_plain written.value) _ plain).1 known fresh)
    where
      by_form : (joined : Bool) → written.joined ≡ joined → ((rows : List Row) (pend : Option Written) → IsKnown names pend → Fresh rows (option_to_list pend ++ options) → Passes command names rows pend options (all_words_of options)) → Passes command names rows pend (written ∷ options) (all_words_of (written ∷ options))
      by_form true is again =
          let before = option_to_list pend in
          let name = (both_true _ _ among).0 in
          subst (λ b. Passes command names rows pend (written ∷ options) (cond b ((codes "--" ++ written.name ++ (codes "=" ++ written.value)) ∷ []) ((codes "--" ++ written.name) ∷ written.value ∷ []) ++ all_words_of options)) (sym is)
          (joined_passes written options rows pend (clean_among names written.name clean name) name known fresh (again (add_rows rows before ++ row_of written ∷ []) None tt (fresh_back rows before (written ∷ options) fresh).1))
      by_form false is again =
          let before = option_to_list pend in
          let name = (both_true _ _ among).0 in
          subst (λ b. Passes command names rows pend (written ∷ options) (cond b ((codes "--" ++ written.name ++ (codes "=" ++ written.value)) ∷ []) ((codes "--" ++ written.name) ∷ written.value ∷ []) ++ all_words_of options)) (sym is)
          (alone_passes written options rows pend (clean_among names written.name clean name) name (both_true (is_plain written.value) _ plain).0 known fresh (again (add_rows rows before) (Some written) name (fresh_back rows before (written ∷ options) fresh)))

-- ---- no name comes twice

abbrev pub names_of : List Written → List Text
names_of options = map (λ (written : Written). written.name) options

has_added : (name : Text) (rows : List Row) (written : Written) → has_row name (rows ++ row_of written ∷ []) ≡ (has_row name rows || (bytes_eq written.name name || false))
has_added name rows written = list_any-append (λ (row : Row). bytes_eq row.id name) rows (row_of written ∷ [])

fresh_once : (rows : List Row) (options : List Written) → Fresh rows options → (each_once (names_of options) ≡ true) × ((name : Text) → is_among (names_of options) name ≡ true → has_row name rows ≡ false)
fresh_once rows [] fresh = (refl, λ name among. let no : false ≡ true = among in cc)
fresh_once rows (written ∷ options) fresh = by_rest (fresh_once (rows ++ row_of written ∷ []) options fresh.1)
  where
    by_rest : (each_once (names_of options) ≡ true) × ((name : Text) → is_among (names_of options) name ≡ true → has_row name (rows ++ row_of written ∷ []) ≡ false)
        → (each_once (names_of (written ∷ options)) ≡ true) × ((name : Text) → is_among (names_of (written ∷ options)) name ≡ true → has_row name rows ≡ false)
    by_rest rest = (ap₂ (λ a b. not a && b) (by_test (is_among (names_of options) written.name) refl) rest.0, λ name among. by_name name (one_true _ _ among))
      where
        by_test : (b : Bool) → is_among (names_of options) written.name ≡ b → is_among (names_of options) written.name ≡ false
        by_test true is =
            let same : bytes_eq written.name written.name ≡ true = (bytes_eq-Decides written.name written.name).1 refl in
            let no : true ≡ false = sym (ap (λ b. b || false) same) ∙ (neither (has_row written.name rows) _ (sym (has_added written.name rows written) ∙ rest.1 written.name is)).1 in
            cc
        by_test false is = is

        by_name : (name : Text) → (bytes_eq name written.name ≡ true) ⊎ (is_among (names_of options) name ≡ true) → has_row name rows ≡ false
        by_name name (inl same) = ap (λ n. has_row n rows) ((bytes_eq-Decides name written.name).0 same) ∙ fresh.0
        by_name name (inr later) = (neither (has_row name rows) _ (sym (has_added name rows written) ∙ rest.1 name later)).0

pub or_later : (a b : Bool) → b ≡ true → (a || b) ≡ true
or_later true b e = refl
or_later false b e = e

pub differs : (names : List Text) (first name : Text) → not (is_among names first) ≡ true → is_among names name ≡ true → bytes_eq first name ≡ false
differs names first name alone among = by_test (bytes_eq first name) refl
  where
    by_test : (b : Bool) → bytes_eq first name ≡ b → bytes_eq first name ≡ false
    by_test true is =
        let also : is_among names first ≡ true = ap (is_among names) ((bytes_eq-Decides first name).0 is) ∙ among in
        let no : false ≡ true = sym (ap not also) ∙ alone in
        cc
    by_test false is = is

once_fresh : (rows : List Row) (options : List Written) → each_once (names_of options) ≡ true → ((name : Text) → is_among (names_of options) name ≡ true → has_row name rows ≡ false) → Fresh rows options
once_fresh rows [] once absent = tt
once_fresh rows (written ∷ options) once absent =
    let first = written.name in
    let parts = both_true (not (is_among (names_of options) first)) _ once in
    let new = absent first (ap (λ b. b || is_among (names_of options) first) ((bytes_eq-Decides first first).1 refl)) in
    let later : (name : Text) → is_among (names_of options) name ≡ true → has_row name (rows ++ row_of written ∷ []) ≡ false = λ name among.
    has_added name rows written
    ∙ ap₂ (λ a b. a || (b || false)) (absent name (or_later (bytes_eq name first) (is_among (names_of options) name) among)) (differs (names_of options) first name parts.0 among) in
    (new, once_fresh (rows ++ row_of written ∷ []) options parts.1 later)

add_all : (rows : List Row) (options : List Written) → add_rows rows options ≡ rows ++ map row_of options
add_all rows [] = sym (append-nil rows)
add_all rows (written ∷ options) = add_all (rows ++ row_of written ∷ []) options ∙ append_assoc rows (row_of written ∷ []) (map row_of options)

first_given : (options : List Written) (name : Text) → first_of name (map row_of options) ≡ given options name
first_given [] name = refl
first_given (written ∷ options) name = by_test (first_given options name) (bytes_eq written.name name) refl
  where
    by_test : first_of name (map row_of options) ≡ given options name → (b : Bool) → bytes_eq written.name name ≡ b → first_of name (map row_of (written ∷ options)) ≡ given (written ∷ options) name
    by_test again true is =
        ap (λ b. option_and_then (λ (row : Row). slice_get row.values 0) (cond b (Some (row_of written)) (find (λ (row : Row). bytes_eq row.id name) (map row_of options)))) is
        ∙ sym (ap (λ b. option_map (λ (written : Written). written.value) (cond b (Some written) (find (λ (written : Written). bytes_eq written.name name) options))) is)
    by_test again false is =
        ap (λ b. option_and_then (λ (row : Row). slice_get row.values 0) (cond b (Some (row_of written)) (find (λ (row : Row). bytes_eq row.id name) (map row_of options)))) is
        ∙ again
        ∙ sym (ap (λ b. option_map (λ (written : Written). written.value) (cond b (Some written) (find (λ (written : Written). bytes_eq written.name name) options))) is)

-- ---- what comes after the walk

no_default : (rows : List Row) (name : Text) → with_default rows (plain_rule name) ≡ rows
no_default rows name = same (has_row name rows)
  where
    same : (b : Bool) → cond b rows rows ≡ rows
    same true = refl
    same false = refl

no_default_fault : (rows : List Row) (name : Text) → default_fault rows (plain_rule name) ≡ []
no_default_fault rows name = same (has_row name rows)
  where
    same : (b : Bool) → cond (b || true) [] (given_default_fault (plain_rule name) []) ≡ []
    same true = refl
    same false = refl

no_defaults : (rows : List Row) (names : List Text) → defaults_fault rows (rules names) ≡ []
unfolding defaults_fault
no_defaults rows [] = refl
no_defaults rows (name ∷ names) = ap₂ or_else (no_default_fault rows name) (ap (λ rows. defaults_fault rows (rules names)) (no_default rows name) ∙ no_defaults rows names)

nothing_finished : (rows : List Row) (names : List Text) → fold with_default rows (rules names) ≡ rows
nothing_finished rows [] = refl
nothing_finished rows (name ∷ names) = ap (λ rows. fold with_default rows (rules names)) (no_default rows name) ∙ nothing_finished rows names

none_required : (rows : List Row) (names : List Text) → list_any (λ (a : Rule). a.required && not (is_given a.id rows)) (rules names) ≡ false
none_required rows [] = refl
none_required rows (name ∷ names) = none_required rows names

no_check : (command : Text) (names : List Text) (rows : List Row) → check_fault (level_with command names true false) rows false ≡ []
no_check command names rows = ap (λ missing. check_kinds false false (true && missing)) (none_required rows names)

abbrev start : Text → List Text → Walk
start command names = begun command names [] None

after_walk : (command : Text) (names line : List Text) → or_else (end_fault command names (start command names) line) (or_else (defaults_fault (end_rows command names (start command names) line) (rules names)) (check_fault (level_with command names true false) (finished (rules names) (ending command names (start command names) line).held) false)) ≡ end_fault command names (start command names) line
after_walk command names line =
    ap₂ (λ a b. or_else (end_fault command names (start command names) line) (or_else a b)) (no_defaults (end_rows command names (start command names) line) names) (no_check command names (finished (rules names) (ending command names (start command names) line).held))
    ∙ or_else_none _

abbrev pub level : Text → List Text → List Text → Kinds
level command names line = level_fault (level_with command names true false) [] nothing_held line false []

abbrev pub found : List Text → List Text → List Row
found names line = rows_after (rules names) [] line

-- the words of a level are those of options, which the rows give
pub record IsWritten (names line : List Text) : Type 0 where
  pub options : List Written
  pub words : line ≡ all_words_of options
  pub options_of : AreOptionsOf names options
  pub says : (name : Text) → first_of name (found names line) ≡ given options name

says_given : (command : Text) (names line : List Text) (options : List Written) → end_rows command names (start command names) line ≡ add_rows [] options → (name : Text) → first_of name (found names line) ≡ given options name
says_given command names line options rows name =
    ap (first_of name) (nothing_finished (end_rows command names (start command names) line) names ∙ rows ∙ add_all [] options)
    ∙ first_given options name

pub level_read : (command : Text) (names line : List Text) → list_any is_dashes line ≡ false → level command names line ≡ [] → IsWritten names line
level_read command names line dashes e =
    let parts = both_none (faults command names (start command names) line) _ e in
    let end = sym (after_walk command names line) ∙ parts.1 in
    let read = (both_read command names line).0 [] None tt dashes parts.0 end in
    record {
      options = read.more;
      words = read.words;
      options_of = record { known = read.known; once = (fresh_once [] read.more read.fresh).0 };
      says = says_given command names line read.more read.rows_are;
    }

-- and words of options, whose values don't begin with a dash, have no fault
pub level_passes : (command : Text) (names line : List Text) (options : List Written) → list_all is_clean names ≡ true → line ≡ all_words_of options → AreOptionsOf names options → are_plain options ≡ true
    → (list_any is_dashes line ≡ false) × (level command names line ≡ []) × ((name : Text) → first_of name (found names line) ≡ given options name)
level_passes command names line options clean e of plain =
    let fresh = once_fresh [] options of.once (λ name among. refl) in
    let passes = subst (Passes command names [] None options) (sym e) (options_pass command names options [] None clean of.known plain tt fresh) in
    (passes.dashes, ap₂ or_else passes.none (after_walk command names line ∙ passes.ended), says_given command names line options passes.rows_are)
