-- What an event reads and changes.
use Rattle.std.specs.Prelude.{Bool, true, false, ◌≢◌, if◌then◌else◌, slice_index, slice_set, slice_get}
use Rattle.std.proofs.Common.{◌≡◌, ℕ, zero, suc, List, [], ◌∷◌, sym, refl, ap, subst, ◌∙◌, Option, Some, None}
use Rattle.std.proofs.lemmas.List.{set-get_or}
use Rattle.machine_states.specs.epoch_core.specs.small_lemmas.proofs.Lists.{none_not_some as absent, some_not_none as present, some_the_same as the_same}
use Rattle.machine_states.specs.map_history.specs.declared.op.Request.{Request}
use Rattle.machine_states.specs.table_words.specs.declared.layout.Layout.{Layout}
use Rattle.machine_states.specs.table_words.specs.declared.sizes.Sizes.{Sizes}
use Rattle.machine_states.specs.table_words.specs.declared.spot.Spot.{Spot}
use Rattle.machine_states.specs.table_words.specs.declared.access.Access.{Access}
use Rattle.machine_states.specs.table_words.specs.declared.access.Access.TheVariants.{Loads}
use Rattle.machine_states.specs.table_words.specs.Access.{written}
use Rattle.machine_states.specs.table_words.specs.Places.{fits}
use Rattle.machine_states.specs.structure_laws.specs.Meaning.{Meaning}
use Rattle.machine_states.specs.runner_parts.specs.declared.event.EventKind.{EventKind}
use Rattle.machine_states.specs.runner_parts.specs.declared.event.EventKind.TheVariants as kinds
use Rattle.machine_states.specs.runner_parts.specs.declared.event.Event.{Event}
use Rattle.machine_states.specs.runner_parts.specs.State.{RunState, PartState}
use Rattle.machine_states.specs.runner_steps.specs.Outside.{Ask, when}
use Rattle.machine_states.specs.runner_steps.specs.Asks.{asks, sizes_for, fitting, ask_by, line_ask, opening_ask}
use Rattle.machine_states.specs.runner_steps.specs.Sections.{is_open_run, next_of}
use Rattle.machine_states.specs.runner_steps.specs.After.{after}
use Rattle.machine_states.specs.World.{World, seat_of, settled_part, left_by, put_part, acted, acts, happens}
use Rattle.interleave_core.specs.Local.{joined_by, met_by, part_of, meets, number_of, HaveSameWord, HaveSamePart, HaveOtherWords, HaveOtherParts, IsLocal, JoinsTwo}

other_set : {A : Type 0} (xs : List A) (i j : ℕ) (x : A) → j ≢ i → slice_get (slice_set xs i x) j ≡ slice_get xs j
other_set [] i j x other = refl
other_set (y ∷ ys) zero zero x other = absurd (other refl)
other_set (y ∷ ys) zero (suc j) x other = refl
other_set (y ∷ ys) (suc i) zero x other = refl
other_set (y ∷ ys) (suc i) (suc j) x other = other_set ys i j x (λ e. other (ap suc e))

same_set : {A : Type 0} (xs ys : List A) (i : ℕ) (x : A) → slice_get ys i ≡ slice_get xs i → slice_get (slice_set ys i x) i ≡ slice_get (slice_set xs i x) i
same_set [] [] i x same = refl
same_set [] (y ∷ ys) zero x same = absurd (present y same)
same_set [] (y ∷ ys) (suc i) x same = same_set [] ys i x same
same_set (z ∷ zs) [] zero x same = absurd (absent z same)
same_set (z ∷ zs) [] (suc i) x same = same_set zs [] i x same
same_set (z ∷ zs) (y ∷ ys) zero x same = refl
same_set (z ∷ zs) (y ∷ ys) (suc i) x same = same_set zs ys i x same

same_index : (xs ys : List ℕ) (i : ℕ) → slice_get ys i ≡ slice_get xs i → slice_index ys i ≡ slice_index xs i
same_index [] [] i same = refl
same_index [] (y ∷ ys) zero same = absurd (present y same)
same_index [] (y ∷ ys) (suc i) same = same_index [] ys i same
same_index (z ∷ zs) [] zero same = absurd (absent z same)
same_index (z ∷ zs) [] (suc i) same = same_index zs [] i same
same_index (z ∷ zs) (y ∷ ys) zero same = the_same y z same
same_index (z ∷ zs) (y ∷ ys) (suc i) same = same_index zs ys i same

put_alone : (parts : List PartState) (k : EventKind) (seat : ℕ) (p : PartState) → joined_by k ≡ None → put_part parts k seat p ≡ slice_set parts seat p
put_alone parts (kinds.Join worker) seat p alone = absurd (present worker alone)
put_alone parts _ seat p alone = refl

settled_alone : (k : EventKind) (p : PartState) (parts : List PartState) → joined_by k ≡ None → settled_part k p parts ≡ p
settled_alone (kinds.Join worker) p parts alone = absurd (present worker alone)
settled_alone _ p parts alone = refl

-- by what an event in this state is known: the part, the word that it meets and the state afterwards
record Made (m : Meaning) (l : Layout) (rs : List Request) (w v : World) (e : Event) : Type 0 where
  part : PartState
  spot : Spot
  access : Access
  here : part_of l w e.runner ≡ Some part
  asked : asks m l rs e.runner e.kind part ≡ Some (spot, access)
  words : v.words ≡ slice_set w.words (number_of m l rs spot) (written access (slice_index w.words (number_of m l rs spot)))
  parts : v.parts ≡ put_part w.parts e.kind (seat_of l e.runner) (settled_part e.kind (after m l e.runner e.kind spot access part (slice_index w.words (number_of m l rs spot))) w.parts)

module _ (m : Meaning) (l : Layout) (rs : List Request) where
  made_acted : (w v : World) (e : Event) (p : PartState) (a : Ask) → part_of l w e.runner ≡ Some p → asks m l rs e.runner e.kind p ≡ a → acted m l rs w e.runner e.kind p a ≡ Some v → Made m l rs w v e
  made_acted w v e p None here asked goes = absurd (absent v goes)
  made_acted w v e p (Some x) here asked goes =
      let is = the_same _ v goes in
      record {
        part = p;
        spot = x.0;
        access = x.1;
        here = here;
        asked = asked;
        words = ap (λ (y : World). y.words) (sym is);
        parts = ap (λ (y : World). y.parts) (sym is);
      }

  made_by : (w v : World) (e : Event) (o : Option PartState) → part_of l w e.runner ≡ o → acts m l rs w e.runner e.kind o ≡ Some v → Made m l rs w v e
  made_by w v e None here goes = absurd (absent v goes)
  made_by w v e (Some p) here goes = made_acted w v e p (asks m l rs e.runner e.kind p) here refl goes

  made : (w v : World) (e : Event) → happens m l rs w e ≡ Some v → Made m l rs w v e
  made w v e goes = made_by w v e (part_of l w e.runner) refl goes

  refused_acted : (w : World) (e : Event) (p : PartState) (a : Ask) → acted m l rs w e.runner e.kind p a ≡ None → a ≡ None
  refused_acted w e p None goes = refl
  refused_acted w e p (Some x) goes = absurd (present _ goes)

  refused_by : (w : World) (e : Event) (o : Option PartState) → acts m l rs w e.runner e.kind o ≡ None → met_by m l rs e o ≡ None
  refused_by w e None goes = refl
  refused_by w e (Some p) goes = refused_acted w e p (asks m l rs e.runner e.kind p) goes

  refuses_by : (w : World) (e : Event) (o : Option PartState) → met_by m l rs e o ≡ None → acts m l rs w e.runner e.kind o ≡ None
  refuses_by w e None none = refl
  refuses_by w e (Some p) none = ap (acted m l rs w e.runner e.kind p) none

  -- the event meets what its part asks
  met : (w v : World) (e : Event) (k : Made m l rs w v e) → meets m l rs w e ≡ Some (k.spot, k.access)
  met w v e k = ap (met_by m l rs e) k.here ∙ k.asked

  module _ (e : Event) (alone : joined_by e.kind ≡ None) where
    -- the stepping runner's part afterwards stands in its place, and nothing else is put
    placed : (w v : World) (k : Made m l rs w v e) → v.parts ≡ slice_set w.parts (seat_of l e.runner) (after m l e.runner e.kind k.spot k.access k.part (slice_index w.words (number_of m l rs k.spot)))
    placed w v k = k.parts ∙ (ap (λ (p : PartState). put_part w.parts e.kind (seat_of l e.runner) p) (settled_alone e.kind _ w.parts alone) ∙ put_alone w.parts e.kind (seat_of l e.runner) _ alone)

    other_words : (w v : World) (a : Spot) (access : Access) → meets m l rs w e ≡ Some (a, access) → happens m l rs w e ≡ Some v → HaveOtherWords m l rs a w v
    other_words w v a access meets goes i other =
        let k = made w v e goes in
        let same : k.spot ≡ a = ap (λ (x : Spot × Access). x.0) (the_same (k.spot, k.access) (a, access) (sym (met w v e k) ∙ meets)) in
        ap (λ (xs : List ℕ). slice_get xs i) k.words ∙ other_set w.words (number_of m l rs k.spot) i _ (λ here. other (here ∙ ap (number_of m l rs) same))

    other_parts : (w v : World) → happens m l rs w e ≡ Some v → HaveOtherParts m l rs e.runner w v
    other_parts w v goes i other = let k = made w v e goes in ap (λ (ps : List PartState). slice_get ps i) (placed w v k) ∙ other_set w.parts (seat_of l e.runner) i _ other

    -- two events that met the same on the same part
    module _ (w w' v v' : World) (k : Made m l rs w v e) (k' : Made m l rs w' v' e) (part : HaveSamePart m l rs e.runner w w') where
      same_part : k'.part ≡ k.part
      same_part = the_same k'.part k.part (sym k'.here ∙ (part ∙ k.here))

      same_met : ◌≡◌ {A = Spot × Access} (k'.spot, k'.access) (k.spot, k.access)
      same_met = the_same (k'.spot, k'.access) (k.spot, k.access) (sym k'.asked ∙ (ap (asks m l rs e.runner e.kind) same_part ∙ k.asked))

      same_spot : k'.spot ≡ k.spot
      same_spot = ap (λ (x : Spot × Access). x.0) same_met

      same_access : k'.access ≡ k.access
      same_access = ap (λ (x : Spot × Access). x.1) same_met

      module _ (word : HaveSameWord m l rs k.spot w w') where
        same_found : slice_index w'.words (number_of m l rs k'.spot) ≡ slice_index w.words (number_of m l rs k.spot)
        same_found = ap (λ (a : Spot). slice_index w'.words (number_of m l rs a)) same_spot ∙ same_index w.words w'.words (number_of m l rs k.spot) word

        same_word : HaveSameWord m l rs k.spot v v'
        same_word =
            let n = number_of m l rs k.spot in
            let is : v'.words ≡ slice_set w'.words n (written k.access (slice_index w.words n)) =
            k'.words ∙ (λ i. slice_set w'.words (number_of m l rs (same_spot i)) (written (same_access i) (same_found i))) in
            ap (λ (xs : List ℕ). slice_get xs n) is ∙ (same_set w.words w'.words n _ word ∙ ap (λ (xs : List ℕ). slice_get xs n) (sym k.words))

        same_next : HaveSamePart m l rs e.runner v v'
        same_next =
            let seat = seat_of l e.runner in
            let next = after m l e.runner e.kind k.spot k.access k.part (slice_index w.words (number_of m l rs k.spot)) in
            let is : v'.parts ≡ slice_set w'.parts seat next =
            placed w' v' k' ∙ (λ i. slice_set w'.parts seat (after m l e.runner e.kind (same_spot i) (same_access i) (same_part i) (same_found i))) in
            ap (λ (ps : List PartState). slice_get ps seat) is ∙ (same_set w.parts w'.parts seat next part ∙ ap (λ (ps : List PartState). slice_get ps seat) (sym (placed w v k)))

    at_spot : (w w' v : World) (a : Spot) (access : Access) (k : Made m l rs w v e) → meets m l rs w e ≡ Some (a, access) → a ≡ k.spot
    at_spot w w' v a access k meets = ap (λ (x : Spot × Access). x.0) (the_same (a, access) (k.spot, k.access) (sym meets ∙ met w v e k))

    -- the event reads and changes its word and its runner's part alone
    pub local : IsLocal m l rs e
    local = record {
      asks = λ w w' same. ap (met_by m l rs e) same;
      enabled = λ w. (refused_by w e (part_of l w e.runner), refuses_by w e (part_of l w e.runner));
      words = other_words;
      parts = other_parts;
      word_after = λ w w' v v' a access meets part word goes goes'.
          let k = made w v e goes in
          let here = at_spot w w' v a access k meets in
          subst (λ (b : Spot). HaveSameWord m l rs b v v') (sym here) (same_word w w' v v' k (made w' v' e goes') part (subst (λ (b : Spot). HaveSameWord m l rs b w w') here word));
      part_after = λ w w' v v' a access meets part word goes goes'.
          let k = made w v e goes in
          let here = at_spot w w' v a access k meets in
          same_next w w' v v' k (made w' v' e goes') part (subst (λ (b : Spot). HaveSameWord m l rs b w w') here word);
    }

  -- what a join asks is a load
  when_loads : (test : Bool) (a : Spot) (x : Spot × Access) → when test a Loads ≡ Some x → x.1 ≡ Loads
  when_loads true a x asked = ap (λ (y : Spot × Access). y.1) (sym (the_same (a, Loads) x asked))
  when_loads false a x asked = absurd (absent x asked)

  fitting_same : (s : Sizes) (b : Bool) (y x : Spot × Access) → (if b then Some y else None) ≡ Some x → y ≡ x
  fitting_same s true y x asked = the_same y x asked
  fitting_same s false y x asked = absurd (absent x asked)

  fitting_loads : (s : Sizes) (o : Ask) (x : Spot × Access) → ((y : Spot × Access) → o ≡ Some y → y.1 ≡ Loads) → fitting s o ≡ Some x → x.1 ≡ Loads
  fitting_loads s None x loads asked = absurd (absent x asked)
  fitting_loads s (Some y) x loads asked = ap (λ (z : Spot × Access). z.1) (sym (fitting_same s (fits s y.0) y x asked)) ∙ loads y refl

  unless_gone : (gone : Bool) (s : Sizes) (o : Ask) (x : Spot × Access) → ((y : Spot × Access) → o ≡ Some y → y.1 ≡ Loads) → (if gone then None else fitting s o) ≡ Some x → x.1 ≡ Loads
  unless_gone true s o x loads asked = absurd (absent x asked)
  unless_gone false s o x loads asked = fitting_loads s o x loads asked

  line_joins : (worker : ℕ) (b : Bool) (q : RunState) (free blocks : List ℕ) (y : Spot × Access) → (if b then line_ask m l (kinds.Join worker) free blocks q (next_of m q) else opening_ask (kinds.Join worker) q) ≡ Some y → y.1 ≡ Loads
  line_joins worker true q free blocks y asked = absurd (absent y asked)
  line_joins worker false q free blocks y asked = absurd (absent y asked)

  join_loads : (r worker : ℕ) (p : PartState) (o : Option RunState) (y : Spot × Access) → ask_by m l rs r (kinds.Join worker) p o ≡ Some y → y.1 ≡ Loads
  join_loads r worker p None y asked = when_loads _ _ y asked
  join_loads r worker p (Some q) y asked = line_joins worker (is_open_run q) q p.nodes.free p.blocks.free y asked

  left_other : (parts : List PartState) (seat i : ℕ) (o : Option PartState) → i ≢ seat → slice_get (left_by parts seat o) i ≡ slice_get parts i
  left_other parts seat i None other = refl
  left_other parts seat i (Some q) other = other_set parts seat i _ other

  joined_other : (parts : List PartState) (seat worker i : ℕ) (p : PartState) → i ≢ seat → i ≢ suc worker → slice_get (put_part parts (kinds.Join worker) seat p) i ≡ slice_get parts i
  joined_other parts seat worker i p own other =
      left_other (slice_set parts seat p) (suc worker) i (slice_get (slice_set parts seat p) (suc worker)) other ∙ other_set parts seat i p own

  module _ (r worker : ℕ) where
    abbrev joining : Event
    joining = record { runner = r; kind = kinds.Join worker }

    join_words : (w v : World) → happens m l rs w joining ≡ Some v → v.words ≡ w.words
    join_words w v goes =
        let k = made w v joining goes in
        let loads = unless_gone k.part.gone (sizes_for m l rs) (ask_by m l rs r (kinds.Join worker) k.part k.part.run) (k.spot, k.access) (join_loads r worker k.part k.part.run) k.asked in
        let n = number_of m l rs k.spot in
        k.words ∙ (ap (λ (x : Access). slice_set w.words n (written x (slice_index w.words n))) loads ∙ set-get_or w.words n 0)

    join_parts : (w v : World) → happens m l rs w joining ≡ Some v → (i : ℕ) → i ≢ seat_of l r → i ≢ suc worker → slice_get v.parts i ≡ slice_get w.parts i
    join_parts w v goes i own other =
        let k = made w v joining goes in
        ap (λ (ps : List PartState). slice_get ps i) k.parts ∙ joined_other w.parts (seat_of l r) worker i _ own other

    -- a join changes no word, and two parts at most
    pub joins_two : JoinsTwo m l rs joining worker
    joins_two = record { words = join_words; parts = join_parts }
