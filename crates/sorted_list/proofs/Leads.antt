-- The walk of the list leads a runner as the list plans.
use Rattle.std.proofs.Common.{◌≡◌, ℕ, ◌+◌, ◌≤◌, [], ◌∷◌, ◌++◌, Bool, true, false, refl, sym, ap, subst, ◌∙◌, arith, Option, Some, None}
use Rattle.std.specs.Prelude.{◌==◌, ◌&&◌, ◌-◌, not, nat_le, is_some, if◌then◌else◌}
use Rattle.std.proofs.lemmas.Bool.Decides.{nat_tests}
use Rattle.std.proofs.lemmas.Bool.{true≢false}
use Rattle.list_walks.specs.small_lemmas.proofs.Bools.{false_not_true as false_true}
use Rattle.list_walks.specs.structure_laws.specs.map_history.specs.declared.op.Op.{Op}
use Rattle.list_walks.specs.structure_laws.specs.body_terms.specs.Word.{value_of, version_of, pack, is_free, is_spent}
use Rattle.list_walks.specs.structure_laws.proofs.Changes.{equal_of}
use Rattle.list_walks.specs.structure_laws.specs.table_words.specs.declared.layout.Layout.{Layout}
use Rattle.list_walks.specs.structure_laws.specs.table_words.specs.Places.{slot_count}
use Rattle.list_walks.specs.structure_laws.specs.Scene.{Readings}
use Rattle.list_walks.specs.list_laws.specs.bucket_laws.specs.Walk.{has_one_key}
use Rattle.list_walks.specs.list_laws.specs.bucket_laws.proofs.Places.{eq_true}
use Rattle.list_walks.specs.list_laws.specs.Walk.{Walk}
use Rattle.list_walks.specs.list_laws.specs.Nodes.{list, walk_of, is_lock_place}
use Rattle.list_walks.specs.Walking.{fed_by, followed_by, is_refused_in}
use Rattle.list_walks.specs.Leading.{is_mark_place, wanted_in, fed_in, first_walk, WalkLeads, FarLaw}
use Rattle.list_walks.proofs.Leading.{walk_leads}
use Rattle.lock_walks.specs.try_lock.specs.declared.planned.Planned.{Planned}
use Rattle.lock_walks.specs.try_lock.specs.declared.planned.Planned.TheVariants as answers
use Rattle.lock_walks.specs.try_lock.specs.Plans.{refused_by_lock}
use Rattle.lock_walks.specs.Way.{fed_all, IsLedBy, IsThunkFor, Leads}
use Rattle.lock_walks.proofs.Each.{each_more}
use Rattle.lock_walks.proofs.Following.{followed_led}
use Rattle.sorted_list.specs.declared.walker.SortedWalk.{SortedWalk}
use Rattle.sorted_list.specs.Planned.{list_way}
use Rattle.sorted_list.proofs.Following.{in_readings}

both_true : {a b : Bool} → a ≡ true → b ≡ true → a && b ≡ true
both_true e f = λ i. e i && f i

nat_le_true : {a b : ℕ} → a ≤ b → nat_le a b ≡ true
nat_le_true le = grind (arith, nat_tests, le)

-- the walk after readings by which it led
abbrev walked_by : SortedWalk → Readings → SortedWalk
walked_by w readings = record { walk = followed_by w.walk readings }

fed_last : (w : SortedWalk) (readings : Readings) (place word : ℕ) → fed_all list_way w (readings ++ (place, word) ∷ []) ≡ list_way.fed (fed_all list_way w readings) word
fed_last w [] place word = refl
fed_last w (x ∷ readings) place word = fed_last (record { walk = fed_by w.walk x.1 }) readings place word

-- a reading refuses exactly where the walk is refused behind it
by_reading : (lock mark one free spent refused far : Bool) (busy used stale too_far : Planned)
    → (lock ≡ true → refused ≡ not (free && not spent)) → (mark ≡ true → one ≡ true → refused ≡ true) → (lock ≡ false → mark && one ≡ false → refused ≡ true → far ≡ true)
    → refused ≡ is_some (if lock then (if free then (if spent then Some used else None) else Some busy) else (if mark && one then Some stale else (if refused && far then Some too_far else None)))
by_reading true mark one true true refused far busy used stale too_far by_lock by_mark is_far = by_lock refl
by_reading true mark one true false refused far busy used stale too_far by_lock by_mark is_far = by_lock refl
by_reading true mark one false spent refused far busy used stale too_far by_lock by_mark is_far = by_lock refl
by_reading false true true free spent refused far busy used stale too_far by_lock by_mark is_far = by_mark refl refl
by_reading false true false free spent true true busy used stale too_far by_lock by_mark is_far = refl
by_reading false true false free spent true false busy used stale too_far by_lock by_mark is_far = absurd (false_true (is_far refl refl refl))
by_reading false true false free spent false far busy used stale too_far by_lock by_mark is_far = refl
by_reading false false one free spent true true busy used stale too_far by_lock by_mark is_far = refl
by_reading false false one free spent true false busy used stale too_far by_lock by_mark is_far = absurd (false_true (is_far refl refl refl))
by_reading false false one free spent false far busy used stale too_far by_lock by_mark is_far = refl

module _ (layout : Layout) (op : Op) (served : has_one_key op ≡ true) (far : FarLaw layout op) where
  abbrev first : SortedWalk
  first = record { walk = first_walk layout op }

  abbrev walked : Readings → Walk
  walked readings = walk_of layout op readings

  its : WalkLeads layout op
  its = walk_leads layout op served

  here : (readings : Readings) → IsLedBy list_way first readings → fed_all list_way first readings ≡ walked_by first readings
  here readings led = followed_led list_way first readings led ∙ in_readings first readings

  wants_so : (readings : Readings) (o : Option ℕ) → IsLedBy list_way first readings → list_way.wants (fed_all list_way first readings) ≡ o → wanted_in layout op readings ≡ o
  wants_so readings o led wants = sym (ap list_way.wants (here readings led)) ∙ wants

  pub leads : Leads list_way list layout first
  leads = record {
    begins = (2, refl);
    shorter = λ other place word wants. its.shorter other.walk place word wants;
    steady = λ readings. refl;
    wanted = λ readings led. sym (ap list_way.wants (here readings led));
    readable = λ readings place led wants known. let may = its.readable readings place (wants_so readings (Some place) led wants) known in (may.0, (let low = may.1 in omega (arith, low)));
    refuses = λ readings place word led wants known.
        let wants' = wants_so readings (Some place) led wants in
        let more = each_more (λ rs p w. list_way.wants (fed_all list_way first rs) ≡ Some p) readings place word led wants in
        let next : walked (readings ++ (place, word) ∷ []) ≡ fed_in layout op readings word =
        ap (λ (w : SortedWalk). w.walk.walk) (sym (here (readings ++ (place, word) ∷ []) more) ∙ (fed_last first readings place word ∙ ap (λ w. list_way.fed w word) (here readings led))) in
        ap (λ w. list_way.refused (list_way.fed w word)) (here readings led)
        ∙ (by_reading (is_lock_place place) (is_mark_place place) (value_of word == 1) (is_free word) (is_spent layout.version_max word) (is_refused_in (fed_in layout op readings word))
        (nat_le (slot_count layout 2 + 8) (fed_in layout op readings word).links) _ _ _ _
        (λ lock. its.by_lock readings place word wants' lock)
        (λ mark one. its.by_mark readings place word wants' mark (equal_of (value_of word) 1 one))
        (λ open_place whole_mark refused. nat_le_true (far readings place word wants' known open_place
        (λ mark one. true≢false (sym (both_true mark (eq_true (value_of word) 1 one)) ∙ whole_mark)) refused))
        ∙ ap (λ (w : Walk). is_some (if is_lock_place place then refused_by_lock layout.version_max place word
        else (if is_mark_place place && (value_of word == 1) then Some (answers.Stale place (pack 0 (version_of word - 1)) word) else (if (is_refused_in w && nat_le (slot_count layout 2 + 8) w.links) then Some (answers.Far (slot_count layout 2 + 8)) else None)))) (sym next));
    goes_on = λ readings place led wants. ap list_way.refused (here readings led) ∙ its.goes_on readings place (wants_so readings (Some place) led wants);
    fits = λ number readings led wants goes. subst (λ w. IsThunkFor list_way list layout first number readings (list_way.thunk w number)) (sym (here readings led))
        (let whole = its.whole number readings (wants_so readings None led wants) (sym (ap list_way.refused (here readings led)) ∙ goes) in
        record { fits = whole.fits; request = refl; operands = whole.operands; free = whole.free; unspent = whole.unspent; read = whole.read });
    few = let few = its.few in omega (arith, few);
  }
