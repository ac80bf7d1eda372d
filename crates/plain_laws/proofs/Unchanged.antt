-- An operation whose body looks alone leaves the map as it was.
use Rattle.std.proofs.Common.{◌≡◌, ℕ, ◌<◌, Bool, true, false, Some, None, refl, sym, ap, ◌∙◌, ⊎_elim, arith}
use Rattle.std.specs.Prelude.{if◌then◌else◌}
use Rattle.std.specs.FinMap.{get, insert}
use Rattle.std.proofs.lemmas.Bool.{cases_eq}
use Rattle.structure_laws.specs.map_history.specs.declared.op.Op.{Op}
use Rattle.structure_laws.specs.map_history.specs.declared.op.Op.TheVariants.{Get, Ins, Del, Put, Mov}
use Rattle.structure_laws.specs.map_history.specs.Keys.{key_of}
use Rattle.structure_laws.specs.map_history.specs.Replay.{Pairs, map_after}
use Rattle.structure_laws.specs.body_terms.specs.Update.{upd}
use Rattle.structure_laws.proofs.Changes.{upd_same, upd_other}
use Rattle.tree_laws.specs.node_laws.specs.Forms.{form_from}
use Rattle.tree_laws.specs.node_laws.proofs.Forms.{there}
use Rattle.tree_laws.specs.bucket_laws.proofs.Maps.{get_removed}

-- of forms that begin with this one, the one that looks alone is the first
pub unchanged : (first : ℕ) (pairs : Pairs) (op : Op) (hit : Bool) → 0 < first → form_from first op hit ≡ first
    → (hit ≡ true → (v : ℕ) × (get pairs (key_of op) ≡ Some v)) → (hit ≡ false → get pairs (key_of op) ≡ None)
    → (q : ℕ) → get pairs q ≡ get (map_after pairs op) q
unchanged first pairs (Get key) hit pos form some none q = refl
unchanged first pairs (Ins key value) true pos form some none q = let is = some refl in
    ap (λ b. get (if b then pairs else insert pairs key value) q) (sym (there pairs key is.0 is.1))
unchanged first pairs (Ins key value) false pos form some none q = absurd (omega (arith, form))
unchanged first pairs (Del key) true pos form some none q = absurd (omega (arith, form))
unchanged first pairs (Del key) false pos form some none q = sym (get_removed pairs key q ∙ absent q key (none refl))
  where
    absent : (q key : ℕ) → get pairs key ≡ None → upd (get pairs) key None q ≡ get pairs q
    absent q key h = ⊎_elim (λ e. upd_same (get pairs) key q None e ∙ (sym h ∙ ap (get pairs) (sym e)))
        (λ ne. upd_other (get pairs) key q None ne) (cases_eq q key)
unchanged first pairs (Put key value) true pos form some none q = absurd (omega (arith, form))
unchanged first pairs (Put key value) false pos form some none q = absurd (omega (arith, form))
unchanged first pairs (Mov from to) hit pos form some none q = absurd (omega (arith, pos, form))
