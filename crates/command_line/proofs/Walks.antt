-- The words behind a subcommand's name, as clap walks over them: it has no fault exactly where they are those of options.
use Rattle.std.proofs.Common.{◌≡◌, Bool, true, false, List, [], ◌∷◌, ◌++◌, Option, None, Some, codes, option_map, refl, sym, ap, ◌∙◌}
use Rattle.std.specs.Prelude.{⊤, ◌&&◌, ◌||◌, IfSome, fold, option_to_list}
use Rattle.std.specs.List.{list_all, list_any}
use Rattle.clap.specs.Lexer.{long_of}
use Rattle.clap.specs.Kinds.{Kinds}
use Rattle.clap.specs.Faults.{settle_fault, turn_fault, use_fault, walk_fault}
use Rattle.std.specs.Option.{option_map_or}
use Rattle.clap.specs.Simple.{Shape}
use Rattle.clap.specs.Walk.{Row, Walk, used_by_id, has_row, idle, option, settled, used, walked}
use Rattle.clap.specs.declared.error.kind.ErrorKind.TheVariants as kind
use Rattle.command_line.specs.Parser.{is_dashes}
use Rattle.command_line.specs.Written.{Text, Written, all_words_of, is_among}
use Rattle.command_line.proofs.Longs.{long_again}
use Rattle.command_line.proofs.Turns.{alone_fault, alone_walked, both_none, held, joined_fault, joined_walked, known_id, level_with, no_value, or_else_none, plain_rule, row_for, rules, standing, stray, unknown_fault, use_fresh, use_is_fresh, used_fresh, value_walked, waits_unsettled}

abbrev pub row_of : Written → Row
row_of written = row_for written.name written.value

-- the rows behind these, where each option adds its own
abbrev pub add_rows : List Row → List Written → List Row
add_rows rows [] = rows
add_rows rows (written ∷ more) = add_rows (rows ++ row_of written ∷ []) more

-- no option has the name of a row, or of an option before it
abbrev pub Fresh : List Row → List Written → Type 0
Fresh rows [] = ⊤
Fresh rows (written ∷ more) = (has_row written.name rows ≡ false) × Fresh (rows ++ row_of written ∷ []) more

pub add_join : (rows : List Row) (before more : List Written) → add_rows rows (before ++ more) ≡ add_rows (add_rows rows before) more
add_join rows [] more = refl
add_join rows (written ∷ before) more = add_join (rows ++ row_of written ∷ []) before more

fresh_join : (rows : List Row) (before more : List Written) → Fresh rows before → Fresh (add_rows rows before) more → Fresh rows (before ++ more)
fresh_join rows [] more first next = next
fresh_join rows (written ∷ before) more first next = (first.0, fresh_join (rows ++ row_of written ∷ []) before more first.1 next)

pub fresh_front : (rows : List Row) (before more : List Written) → Fresh rows (before ++ more) → Fresh rows before
fresh_front rows [] more all = tt
fresh_front rows (written ∷ before) more all = (all.0, fresh_front (rows ++ row_of written ∷ []) before more all.1)

pub fresh_back : (rows : List Row) (before more : List Written) → Fresh rows (before ++ more) → Fresh (add_rows rows before) more
fresh_back rows [] more all = all
fresh_back rows (written ∷ before) more all = fresh_back (rows ++ row_of written ∷ []) before more all.1

abbrev pub pending_of : Option Written → Option (Text × List Text)
pending_of pend = option_map (λ (written : Written). (written.name, written.value ∷ [])) pend

abbrev pub are_known : List Text → List Written → Bool
are_known names options = list_all (λ (written : Written). is_among names written.name) options

abbrev pub IsKnown : List Text → Option Written → Type 0
IsKnown names pend = IfSome pend (λ written. is_among names written.name ≡ true)

-- ---- an option that has its value is used before the next one

module _ (names : List Text) where
  abbrev pub settling : List Row → Option Written → Kinds
  settling rows pend = settle_fault (rules names) false (held rows (pending_of pend))

  abbrev pub settled_rows_of : List Row → Option Written → List Row
  settled_rows_of rows pend = (settled (rules names) (held rows (pending_of pend))).rows

  settling_is : (rows : List Row) (written : Written) → is_among names written.name ≡ true → settling rows (Some written) ≡ use_fault false (plain_rule written.name) (written.value ∷ []) rows
  settling_is rows written among = ap (λ found. option_map_or (λ a. use_fault false a (written.value ∷ []) rows) found []) (known_id names written.name among)

  settled_is : (rows : List Row) (written : Written) → is_among names written.name ≡ true → has_row written.name rows ≡ false → settled_rows_of rows (Some written) ≡ rows ++ row_of written ∷ []
  settled_is rows written among fresh =
      ap (λ found. used_by_id found (written.value ∷ []) rows) (known_id names written.name among)
      ∙ used_fresh written.name written.value rows fresh

  settle : (rows : List Row) (pend : Option Written) → IsKnown names pend → settling rows pend ≡ [] → Fresh rows (option_to_list pend) × (settled_rows_of rows pend ≡ add_rows rows (option_to_list pend))
  settle rows None known none = (tt, refl)
  settle rows (Some written) known none =
      let fresh = use_is_fresh written.name written.value rows (sym (settling_is rows written known) ∙ none) in
      ((fresh, tt), settled_is rows written known fresh)

  pub settle_fresh : (rows : List Row) (pend : Option Written) → IsKnown names pend → Fresh rows (option_to_list pend) → (settling rows pend ≡ []) × (settled_rows_of rows pend ≡ add_rows rows (option_to_list pend))
  settle_fresh rows None known fresh = (refl, refl)
  settle_fresh rows (Some written) known fresh = (settling_is rows written known ∙ use_fresh written.name written.value rows fresh.0, settled_is rows written known fresh.0)

-- what words without a fault are, behind an option that may have its value already
pub record IsRead (names : List Text) (rows : List Row) (before : List Written) (line : List Text) (after : List Row) : Type 0 where
  pub more : List Written
  pub words : line ≡ all_words_of more
  pub known : are_known names more ≡ true
  pub fresh : Fresh rows (before ++ more)
  pub rows_are : after ≡ add_rows rows (before ++ more)

pub neither : (a b : Bool) → (a || b) ≡ false → (a ≡ false) × (b ≡ false)
neither true b e = cc
neither false b e = (refl, e)

-- ---- words without a fault are those of options

module _ (command : Text) (names : List Text) where
  abbrev leaf : Shape
  leaf = level_with command names true false

  abbrev pub ending : Walk → List Text → Walk
  ending walk line = fold (walked (rules names) []) walk line

  abbrev pub faults : Walk → List Text → Kinds
  faults walk line = walk_fault leaf [] walk line

  abbrev pub end_fault : Walk → List Text → Kinds
  end_fault walk line = settle_fault (rules names) false (ending walk line).held

  abbrev pub end_rows : Walk → List Text → List Row
  end_rows walk line = (settled (rules names) (ending walk line).held).rows

  abbrev pub begun : List Row → Option Written → Walk
  begun rows pend = standing rows (pending_of pend) idle

  abbrev pub waiting_for : List Row → Text → Walk
  waiting_for rows name = standing rows (Some (name, [])) (option name)

  abbrev Reads : List Text → Type 0
  Reads line = (rows : List Row) (pend : Option Written) → IsKnown names pend → list_any is_dashes line ≡ false
      → faults (begun rows pend) line ≡ [] → end_fault (begun rows pend) line ≡ []
      → IsRead names rows (option_to_list pend) line (end_rows (begun rows pend) line)

  abbrev Waits : List Text → Type 0
  Waits line = (rows : List Row) (name : Text) → is_among names name ≡ true → list_any is_dashes line ≡ false
      → faults (waiting_for rows name) line ≡ [] → end_fault (waiting_for rows name) line ≡ []
      → IsRead names rows [] ((codes "--" ++ name) ∷ line) (end_rows (waiting_for rows name) line)

  nothing_read : Reads []
  nothing_read rows pend known dashes none end =
      let s = settle names rows pend known end in
      record {
        more = [];
        words = refl;
        known = refl;
        fresh = fresh_join rows (option_to_list pend) [] s.0 tt;
        rows_are = s.1 ∙ sym (add_join rows (option_to_list pend) []);
      }

  nothing_waits : Waits []
  nothing_waits rows name among dashes none end = let no : kind.InvalidValue ∷ [] ≡ [] = sym (waits_unsettled command names true false [] rows name among) ∙ end in cc

  turn_and_more : (walk : Walk) (word : Text) (line : List Text) → faults walk (word ∷ line) ≡ [] → (turn_fault leaf [] walk word ≡ []) × (faults (walked (rules names) [] walk word) line ≡ [])
  unfolding walk_fault
  turn_and_more walk word line e = both_none (turn_fault leaf [] walk word) _ e

  -- an option with its value is read, and more behind it
  joined_read : (word : Text) (line : List Text) (rows : List Row) (pend : Option Written) (name text : Text) → Reads line → IsKnown names pend → is_dashes word ≡ false → list_any is_dashes line ≡ false
      → long_of word ≡ Some (name, Some text) → is_among names name ≡ true
      → faults (begun rows pend) (word ∷ line) ≡ [] → end_fault (begun rows pend) (word ∷ line) ≡ []
      → IsRead names rows (option_to_list pend) (word ∷ line) (end_rows (begun rows pend) (word ∷ line))
  joined_read word line rows pend name text again known dashes others long among none end =
      let parts = turn_and_more (begun rows pend) word line none in
      let spent = both_none (settling names rows pend) _ (sym (or_else_none _) ∙ sym (joined_fault command names true false [] rows (pending_of pend) idle word name text refl dashes long among) ∙ parts.0) in
      let s = settle names rows pend known spent.0 in
      let fresh : has_row name (add_rows rows (option_to_list pend)) ≡ false =
      use_is_fresh name text (add_rows rows (option_to_list pend)) (ap (use_fault false (plain_rule name) (text ∷ [])) (sym s.1) ∙ spent.1) in
      let written : Written = record { name = name; value = text; joined = true } in
      let next = add_rows rows (option_to_list pend) ++ row_of written ∷ [] in
      let step : walked (rules names) [] (begun rows pend) word ≡ begun next None =
      joined_walked command names true false [] rows (pending_of pend) idle word name text refl dashes long among
      ∙ ap (λ found. standing (used (plain_rule name) (text ∷ []) found) None idle) s.1
      ∙ ap (λ found. standing found None idle) (used_fresh name text (add_rows rows (option_to_list pend)) fresh) in
      let read = again next None tt others (ap (λ walk. faults walk line) (sym step) ∙ parts.1) (ap (λ walk. end_fault walk line) (sym step) ∙ end) in
      record {
        more = written ∷ read.more;
        words = ap (λ w. w ∷ line) (long_again word name (Some text) long) ∙ ap (λ rest. (codes "--" ++ name ++ (codes "=" ++ text)) ∷ rest) read.words;
        known = ap (λ b. b && are_known names read.more) among ∙ read.known;
        fresh = fresh_join rows (option_to_list pend) (written ∷ read.more) s.0 (fresh, read.fresh);
        rows_are = ap (λ walk. end_rows walk line) step ∙ read.rows_are ∙ sym (add_join rows (option_to_list pend) (written ∷ read.more));
      }

  -- an option that waits for its value is read, and its value and more behind it
  alone_read : (word : Text) (line : List Text) (rows : List Row) (pend : Option Written) (name : Text) → Waits line → IsKnown names pend → is_dashes word ≡ false → list_any is_dashes line ≡ false
      → long_of word ≡ Some (name, None) → is_among names name ≡ true
      → faults (begun rows pend) (word ∷ line) ≡ [] → end_fault (begun rows pend) (word ∷ line) ≡ []
      → IsRead names rows (option_to_list pend) (word ∷ line) (end_rows (begun rows pend) (word ∷ line))
  alone_read word line rows pend name again known dashes others long among none end =
      let parts = turn_and_more (begun rows pend) word line none in
      let spent = sym (or_else_none _) ∙ sym (alone_fault command names true false [] rows (pending_of pend) idle word name refl dashes long among) ∙ parts.0 in
      let s = settle names rows pend known spent in
      let next = add_rows rows (option_to_list pend) in
      let step : walked (rules names) [] (begun rows pend) word ≡ waiting_for next name =
      alone_walked command names true false [] rows (pending_of pend) idle word name refl dashes long among
      ∙ ap (λ found. standing found (Some (name, [])) (option name)) s.1 in
      let read = again next name among others (ap (λ walk. faults walk line) (sym step) ∙ parts.1) (ap (λ walk. end_fault walk line) (sym step) ∙ end) in
      record {
        more = read.more;
        words = ap (λ w. w ∷ line) (long_again word name None long) ∙ read.words;
        known = read.known;
        fresh = fresh_join rows (option_to_list pend) read.more s.0 read.fresh;
        rows_are = ap (λ walk. end_rows walk line) step ∙ read.rows_are ∙ sym (add_join rows (option_to_list pend) read.more);
      }

  word_read : (word : Text) (line : List Text) → Reads line → Waits line → Reads (word ∷ line)
  word_read word line reads waits rows pend known dashes none end = by_long (long_of word) refl
    where
      by_name : (name : Text) (attached : Option Text) (b : Bool) → long_of word ≡ Some (name, attached) → is_among names name ≡ b → IsRead names rows (option_to_list pend) (word ∷ line) (end_rows (begun rows pend) (word ∷ line))
      by_name name attached false long among =
          let no : kind.UnknownArgument ∷ [] ≡ [] = sym (unknown_fault command names true false [] rows (pending_of pend) idle word name attached refl (neither _ _ dashes).0 long among) ∙ (turn_and_more (begun rows pend) word line none).0 in
          cc
      by_name name (Some text) true long among = joined_read word line rows pend name text reads known (neither _ _ dashes).0 (neither (is_dashes word) _ dashes).1 long among none end
      by_name name None true long among = alone_read word line rows pend name waits known (neither _ _ dashes).0 (neither (is_dashes word) _ dashes).1 long among none end

      by_long : (found : Option (Text × Option Text)) → long_of word ≡ found → IsRead names rows (option_to_list pend) (word ∷ line) (end_rows (begun rows pend) (word ∷ line))
      by_long None long = absurd (stray command names true false [] rows (pending_of pend) word refl (neither _ _ dashes).0 long (turn_and_more (begun rows pend) word line none).0)
      by_long (Some (name, attached)) long = by_name name attached (is_among names name) long refl

  value_read : (word : Text) (line : List Text) → Reads line → Waits (word ∷ line)
  value_read word line reads rows name among dashes none end = by_long (long_of word) refl
    where
      by_long : (found : Option (Text × Option Text)) → long_of word ≡ found → IsRead names rows [] ((codes "--" ++ name) ∷ word ∷ line) (end_rows (waiting_for rows name) (word ∷ line))
      by_long (Some (other, attached)) long = absurd (no_value command names true false [] rows word name other attached (neither _ _ dashes).0 long among (turn_and_more (waiting_for rows name) word line none).0)
      by_long None long =
          let written : Written = record { name = name; value = word; joined = false } in
          let step : walked (rules names) [] (waiting_for rows name) word ≡ begun rows (Some written) = value_walked command names true false [] rows word name (neither _ _ dashes).0 long among in
          let read = reads rows (Some written) among (neither (is_dashes word) _ dashes).1 (ap (λ walk. faults walk line) (sym step) ∙ (turn_and_more (waiting_for rows name) word line none).1) (ap (λ walk. end_fault walk line) (sym step) ∙ end) in
          record {
            more = written ∷ read.more;
            words = ap (λ rest. (codes "--" ++ name) ∷ word ∷ rest) read.words;
            known = ap (λ b. b && are_known names read.more) among ∙ read.known;
            fresh = read.fresh;
            rows_are = ap (λ walk. end_rows walk line) step ∙ read.rows_are;
          }

  pub both_read : (line : List Text) → Reads line × Waits line
  both_read [] = (nothing_read, nothing_waits)
  both_read (word ∷ line) = let again = both_read line in (word_read word line again.0 again.1, value_read word line again.0)
