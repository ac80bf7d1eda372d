-- The bodies of a table have the shape of a body.
use Rattle.std.proofs.Common.{◌≡◌, ◌≢◌, ℕ, zero, suc, ◌+◌, ◌*◌, ◌<◌, ◌≤◌, cond, refl, sym, ap, ◌∙◌}
use Rattle.std.proofs.Common.{subst, ⊎_elim, arith}
use Rattle.std.proofs.lemmas.List.Elements.{All-nil, All-cons}
use Rattle.std.specs.Prelude.{◌==◌, ◌^◌, ◌⊎◌, Some, List, [], ◌∷◌, All, Contains, nat_lt, slice_index_or, length}
use Rattle.structure_laws.specs.table_words.specs.small_lemmas.proofs.Lists.{some_same as some_inj}
use Rattle.bucket_bodies.specs.section_body.specs.Bucket.{operand, read_steps, insert_steps, remove_steps}
use Rattle.bucket_bodies.specs.Table.{set_steps}
use Rattle.bucket_bodies.specs.Two.{low_half, high_half, higher_lock, target_lock, moved_node, look_two_steps, move_steps}
use Rattle.bucket_bodies.specs.Two.{rename_steps}
use Rattle.structure_laws.specs.body_terms.specs.declared.value.Value.{Value}
use Rattle.structure_laws.specs.body_terms.specs.declared.value.Value.TheVariants.{Const, Of, Made}
use Rattle.structure_laws.specs.body_terms.specs.declared.step.Step.{Step}
use Rattle.structure_laws.specs.body_terms.specs.declared.step.Step.TheVariants.{Load, Want, Fresh, Take, Make, Stamp, Store, Retire, Answer}
use Rattle.structure_laws.specs.body_terms.specs.declared.thunk.Thunk.{Thunk}
use Rattle.structure_laws.specs.body_terms.specs.Shape.{IsShaped, IsStep, SetBefore, FreshBefore}
use Rattle.structure_laws.specs.body_terms.specs.Shape.{phase, used_values, set_registers, store_place}
use Rattle.bucket_laws.specs.Halves.{Form, Reads, Inserts, Removes, Sets, ReadsTwo, Moves, Renames, Empty, steps_of}
use Rattle.bucket_laws.proofs.Halves.{half_in, step_in}

-- what a step uses, where it is known which step it is
used_by : (body : List Step) (i : ℕ) (known step : Step) → Some known ≡ Some step → All (SetBefore body i) (used_values known) → All (SetBefore body i) (used_values step)
used_by body i known step h set = subst (λ step. All (SetBefore body i) (used_values step)) (some_inj h) set

nothing_used : (body : List Step) (i : ℕ) → All (SetBefore body i) []
nothing_used body i = All-nil (SetBefore body i)

one_used : (body : List Step) (i : ℕ) (a : Value) → SetBefore body i a → All (SetBefore body i) (a ∷ [])
one_used body i a first = All-cons (SetBefore body i) a [] first (nothing_used body i)

two_used : (body : List Step) (i : ℕ) (a b : Value) → SetBefore body i a → SetBefore body i b → All (SetBefore body i) (a ∷ b ∷ [])
two_used body i a b first second = All-cons (SetBefore body i) a (b ∷ []) first (one_used body i b second)

node_used : (body : List Step) (i key value next : ℕ) → All (SetBefore body i) (moved_node key value next).cells
node_used body i key value next =
    let p = SetBefore body i in
    All-cons p (Const 0) (Const key ∷ Const value ∷ Const next ∷ Const 0 ∷ []) tt
    (All-cons p (Const key) (Const value ∷ Const next ∷ Const 0 ∷ []) tt
    (All-cons p (Const value) (Const next ∷ Const 0 ∷ []) tt (two_used body i (Const next) (Const 0) tt tt)))

-- what a step sets, where it is known
abbrev IsSetAt : (ℕ → ℕ) → ℕ → Step → Type 0
IsSetAt places i step = (reg : ℕ) → Contains (set_registers step) reg → (i ≡ places reg) × (reg ≤ 15)

only_reg : (r reg : ℕ) → Contains (r ∷ []) reg → r ≡ reg
only_reg r reg has = at has.0 has.1 has.2
  where
    at : (k : ℕ) → k < 1 → slice_index_or (r ∷ []) k reg ≡ reg → r ≡ reg
    at zero low e = e
    at (suc k) low e = absurd (omega arith)

no_reg : (reg : ℕ) → Contains [] reg → ⊥
no_reg reg has = let low = has.1 in omega arith

sets_one : (places : ℕ → ℕ) (i r reg : ℕ) → i ≡ places r → r ≤ 15 → Contains (r ∷ []) reg → (i ≡ places reg) × (reg ≤ 15)
sets_one places i r reg at low has = subst (λ reg. (i ≡ places reg) × (reg ≤ 15)) (only_reg r reg has) (at, low)

known_set : (places : ℕ → ℕ) (i : ℕ) (known step : Step) → Some known ≡ Some step → IsSetAt places i known
    → IsSetAt places i step
known_set places i known step h set = subst (IsSetAt places i) (some_inj h) set

all_low : (regs : List ℕ) → ((reg : ℕ) → Contains regs reg → reg ≤ 15) → All (λ reg. reg ≤ 15) regs
all_low [] low = All-nil (λ reg. reg ≤ 15)
all_low (r ∷ regs) low = All-cons (λ reg. reg ≤ 15) r regs (low r (0, omega arith, refl))
    (all_low regs (λ reg has. low reg (later reg has)))
  where
    later : (reg : ℕ) → Contains regs reg → Contains (r ∷ regs) reg
    later reg has = (suc has.0, (let low = has.1 in omega arith), has.2)

-- the register of a Store
stored_reg : {a r : ℕ} {v u : Value} → Store a v ≡ Store r u → a ≡ r
stored_reg e = ap reg_of e
  where
    reg_of : Step → ℕ
    reg_of (Load p r) = 0
    reg_of (Want r n) = 0
    reg_of (Fresh r) = 0
    reg_of (Take l n) = 0
    reg_of (Make init r) = 0
    reg_of Stamp = 0
    reg_of (Store r v) = r
    reg_of (Retire slot) = 0
    reg_of (Answer n) = 0

-- the steps of read_steps t
read_used : (t : Thunk) (i : ℕ) (step : Step) → IsStep (read_steps t) i step
    → All (SetBefore (read_steps t) i) (used_values step)
read_used t zero step h = used_by (read_steps t) 0 (Load (t.lock + 1) 0) step h
    (nothing_used (read_steps t) 0)
read_used t (suc zero) step h = used_by (read_steps t) 1 (Want 0 (operand t 0)) step h
    (one_used (read_steps t) 1 (Of 0)
    (record { by = 0; place = t.lock + 1; earlier = omega arith; loads = refl }))
read_used t (suc (suc zero)) step h = used_by (read_steps t) 2 (Stamp) step h
    (nothing_used (read_steps t) 2)
read_used t (suc (suc (suc zero))) step h = used_by (read_steps t) 3 (Answer (operand t 1)) step h
    (nothing_used (read_steps t) 3)
read_used t (suc (suc (suc (suc i)))) step h = absurd (cc)

abbrev read_phase : ℕ → ℕ
read_phase j = cond (nat_lt j 2) 1 (cond (nat_lt j 3) 3 (6))

read_phase_at : (t : Thunk) (j : ℕ) (step : Step) → IsStep (read_steps t) j step → phase step ≡ read_phase j
read_phase_at t zero step h = ap phase (sym (some_inj h))
read_phase_at t (suc zero) step h = ap phase (sym (some_inj h))
read_phase_at t (suc (suc zero)) step h = ap phase (sym (some_inj h))
read_phase_at t (suc (suc (suc zero))) step h = ap phase (sym (some_inj h))
read_phase_at t (suc (suc (suc (suc j)))) step h = absurd (cc)

read_phase_rises : (i j : ℕ) → i < j → read_phase i ≤ read_phase j
read_phase_rises i j lt = grind arith

abbrev read_places : ℕ → ℕ
read_places reg = cond (reg == 0) 0 (0)

read_sets : (t : Thunk) (i : ℕ) (step : Step) → IsStep (read_steps t) i step → IsSetAt read_places i step
read_sets t zero step h = known_set read_places 0 (Load (t.lock + 1) 0) step h
    (λ reg has. sets_one read_places 0 0 reg refl (omega arith) has)
read_sets t (suc zero) step h = known_set read_places 1 (Want 0 (operand t 0)) step h
    (λ reg has. absurd (no_reg reg has))
read_sets t (suc (suc zero)) step h = known_set read_places 2 (Stamp) step h
    (λ reg has. absurd (no_reg reg has))
read_sets t (suc (suc (suc zero))) step h = known_set read_places 3 (Answer (operand t 1)) step h
    (λ reg has. absurd (no_reg reg has))
read_sets t (suc (suc (suc (suc i)))) step h = absurd (cc)

-- the steps of insert_steps t
insert_used : (t : Thunk) (i : ℕ) (step : Step) → IsStep (insert_steps t) i step
    → All (SetBefore (insert_steps t) i) (used_values step)
insert_used t zero step h = used_by (insert_steps t) 0 (Load (t.lock + 1) 0) step h
    (nothing_used (insert_steps t) 0)
insert_used t (suc zero) step h = used_by (insert_steps t) 1 (Want 0 (operand t 0)) step h
    (one_used (insert_steps t) 1 (Of 0)
    (record { by = 0; place = t.lock + 1; earlier = omega arith; loads = refl }))
insert_used t (suc (suc zero)) step h = used_by (insert_steps t) 2 (Fresh 0) step h
    (one_used (insert_steps t) 2 (Of 0)
    (record { by = 0; place = t.lock + 1; earlier = omega arith; loads = refl }))
insert_used t (suc (suc (suc zero))) step h = used_by (insert_steps t) 3 (Load (t.lock + 2) 1) step h
    (nothing_used (insert_steps t) 3)
insert_used t (suc (suc (suc (suc zero)))) step h = used_by (insert_steps t) 4 (Fresh 1) step h
    (one_used (insert_steps t) 4 (Of 1)
    (record { by = 3; place = t.lock + 2; earlier = omega arith; loads = refl }))
insert_used t (suc (suc (suc (suc (suc zero))))) step h = used_by (insert_steps t) 5 (Make (moved_node (operand t 1) (operand t 2) (operand t 3)) 2) step h
    (node_used (insert_steps t) 5 (operand t 1) (operand t 2) (operand t 3))
insert_used t (suc (suc (suc (suc (suc (suc zero)))))) step h = used_by (insert_steps t) 6 (Stamp) step h
    (nothing_used (insert_steps t) 6)
insert_used t (suc (suc (suc (suc (suc (suc (suc zero))))))) step h = used_by (insert_steps t) 7 (Store 1 (Made 2)) step h
    (two_used (insert_steps t) 7 (Of 1) (Made 2)
    (record { by = 3; place = t.lock + 2; earlier = omega arith; loads = refl }) (record { by = 5; init = moved_node (operand t 1) (operand t 2) (operand t 3); earlier = omega arith; makes = refl }))
insert_used t (suc (suc (suc (suc (suc (suc (suc (suc zero)))))))) step h = used_by (insert_steps t) 8 (Store 0 (Const 0)) step h
    (two_used (insert_steps t) 8 (Of 0) (Const 0)
    (record { by = 0; place = t.lock + 1; earlier = omega arith; loads = refl }) tt)
insert_used t (suc (suc (suc (suc (suc (suc (suc (suc (suc zero))))))))) step h = used_by (insert_steps t) 9 (Answer (1 * 2 ^ 32)) step h
    (nothing_used (insert_steps t) 9)
insert_used t (suc (suc (suc (suc (suc (suc (suc (suc (suc (suc i)))))))))) step h = absurd (cc)

abbrev insert_phase : ℕ → ℕ
insert_phase j = cond (nat_lt j 5) 1 (cond (nat_lt j 6) 2 (cond (nat_lt j 7) 3 (cond (nat_lt j 9) 4 (6))))

insert_phase_at : (t : Thunk) (j : ℕ) (step : Step) → IsStep (insert_steps t) j step → phase step ≡ insert_phase j
insert_phase_at t zero step h = ap phase (sym (some_inj h))
insert_phase_at t (suc zero) step h = ap phase (sym (some_inj h))
insert_phase_at t (suc (suc zero)) step h = ap phase (sym (some_inj h))
insert_phase_at t (suc (suc (suc zero))) step h = ap phase (sym (some_inj h))
insert_phase_at t (suc (suc (suc (suc zero)))) step h = ap phase (sym (some_inj h))
insert_phase_at t (suc (suc (suc (suc (suc zero))))) step h = ap phase (sym (some_inj h))
insert_phase_at t (suc (suc (suc (suc (suc (suc zero)))))) step h = ap phase (sym (some_inj h))
insert_phase_at t (suc (suc (suc (suc (suc (suc (suc zero))))))) step h = ap phase (sym (some_inj h))
insert_phase_at t (suc (suc (suc (suc (suc (suc (suc (suc zero)))))))) step h = ap phase (sym (some_inj h))
insert_phase_at t (suc (suc (suc (suc (suc (suc (suc (suc (suc zero))))))))) step h = ap phase (sym (some_inj h))
insert_phase_at t (suc (suc (suc (suc (suc (suc (suc (suc (suc (suc j)))))))))) step h = absurd (cc)

insert_phase_rises : (i j : ℕ) → i < j → insert_phase i ≤ insert_phase j
insert_phase_rises i j lt = grind arith

abbrev insert_places : ℕ → ℕ
insert_places reg = cond (reg == 0) 0 (cond (reg == 1) 3 (cond (reg == 2) 5 (0)))

insert_sets : (t : Thunk) (i : ℕ) (step : Step) → IsStep (insert_steps t) i step → IsSetAt insert_places i step
insert_sets t zero step h = known_set insert_places 0 (Load (t.lock + 1) 0) step h
    (λ reg has. sets_one insert_places 0 0 reg refl (omega arith) has)
insert_sets t (suc zero) step h = known_set insert_places 1 (Want 0 (operand t 0)) step h
    (λ reg has. absurd (no_reg reg has))
insert_sets t (suc (suc zero)) step h = known_set insert_places 2 (Fresh 0) step h
    (λ reg has. absurd (no_reg reg has))
insert_sets t (suc (suc (suc zero))) step h = known_set insert_places 3 (Load (t.lock + 2) 1) step h
    (λ reg has. sets_one insert_places 3 1 reg refl (omega arith) has)
insert_sets t (suc (suc (suc (suc zero)))) step h = known_set insert_places 4 (Fresh 1) step h
    (λ reg has. absurd (no_reg reg has))
insert_sets t (suc (suc (suc (suc (suc zero))))) step h = known_set insert_places 5 (Make (moved_node (operand t 1) (operand t 2) (operand t 3)) 2) step h
    (λ reg has. sets_one insert_places 5 2 reg refl (omega arith) has)
insert_sets t (suc (suc (suc (suc (suc (suc zero)))))) step h = known_set insert_places 6 (Stamp) step h
    (λ reg has. absurd (no_reg reg has))
insert_sets t (suc (suc (suc (suc (suc (suc (suc zero))))))) step h = known_set insert_places 7 (Store 1 (Made 2)) step h
    (λ reg has. absurd (no_reg reg has))
insert_sets t (suc (suc (suc (suc (suc (suc (suc (suc zero)))))))) step h = known_set insert_places 8 (Store 0 (Const 0)) step h
    (λ reg has. absurd (no_reg reg has))
insert_sets t (suc (suc (suc (suc (suc (suc (suc (suc (suc zero))))))))) step h = known_set insert_places 9 (Answer (1 * 2 ^ 32)) step h
    (λ reg has. absurd (no_reg reg has))
insert_sets t (suc (suc (suc (suc (suc (suc (suc (suc (suc (suc i)))))))))) step h = absurd (cc)

abbrev insert_stored : Thunk → ℕ → ℕ
insert_stored t i = cond (i == 7) (t.lock + 2) (cond (i == 8) (t.lock + 1) (0))

insert_store_at : (t : Thunk) (i reg : ℕ) (v : Value) → IsStep (insert_steps t) i (Store reg v)
    → (store_place (insert_steps t) i reg ≡ insert_stored t i) × (7 ≤ i) × (i ≤ 8)
insert_store_at t zero reg v h = absurd (let is = some_inj h in cc)
insert_store_at t (suc zero) reg v h = absurd (let is = some_inj h in cc)
insert_store_at t (suc (suc zero)) reg v h = absurd (let is = some_inj h in cc)
insert_store_at t (suc (suc (suc zero))) reg v h = absurd (let is = some_inj h in cc)
insert_store_at t (suc (suc (suc (suc zero)))) reg v h = absurd (let is = some_inj h in cc)
insert_store_at t (suc (suc (suc (suc (suc zero))))) reg v h = absurd (let is = some_inj h in cc)
insert_store_at t (suc (suc (suc (suc (suc (suc zero)))))) reg v h = absurd (let is = some_inj h in cc)
insert_store_at t (suc (suc (suc (suc (suc (suc (suc zero))))))) reg v h = (ap (store_place (insert_steps t) 7) (sym (stored_reg (some_inj h))), omega arith, omega arith)
insert_store_at t (suc (suc (suc (suc (suc (suc (suc (suc zero)))))))) reg v h = (ap (store_place (insert_steps t) 8) (sym (stored_reg (some_inj h))), omega arith, omega arith)
insert_store_at t (suc (suc (suc (suc (suc (suc (suc (suc (suc zero))))))))) reg v h = absurd (let is = some_inj h in cc)
insert_store_at t (suc (suc (suc (suc (suc (suc (suc (suc (suc (suc i)))))))))) reg v h = absurd (cc)

-- the steps of remove_steps t
remove_used : (t : Thunk) (i : ℕ) (step : Step) → IsStep (remove_steps t) i step
    → All (SetBefore (remove_steps t) i) (used_values step)
remove_used t zero step h = used_by (remove_steps t) 0 (Load (t.lock + 1) 0) step h
    (nothing_used (remove_steps t) 0)
remove_used t (suc zero) step h = used_by (remove_steps t) 1 (Want 0 (operand t 0)) step h
    (one_used (remove_steps t) 1 (Of 0)
    (record { by = 0; place = t.lock + 1; earlier = omega arith; loads = refl }))
remove_used t (suc (suc zero)) step h = used_by (remove_steps t) 2 (Fresh 0) step h
    (one_used (remove_steps t) 2 (Of 0)
    (record { by = 0; place = t.lock + 1; earlier = omega arith; loads = refl }))
remove_used t (suc (suc (suc zero))) step h = used_by (remove_steps t) 3 (Load (operand t 1) 1) step h
    (nothing_used (remove_steps t) 3)
remove_used t (suc (suc (suc (suc zero)))) step h = used_by (remove_steps t) 4 (Fresh 1) step h
    (one_used (remove_steps t) 4 (Of 1)
    (record { by = 3; place = operand t 1; earlier = omega arith; loads = refl }))
remove_used t (suc (suc (suc (suc (suc zero))))) step h = used_by (remove_steps t) 5 (Stamp) step h
    (nothing_used (remove_steps t) 5)
remove_used t (suc (suc (suc (suc (suc (suc zero)))))) step h = used_by (remove_steps t) 6 (Store 1 (Const (operand t 3))) step h
    (two_used (remove_steps t) 6 (Of 1) (Const (operand t 3))
    (record { by = 3; place = operand t 1; earlier = omega arith; loads = refl }) tt)
remove_used t (suc (suc (suc (suc (suc (suc (suc zero))))))) step h = used_by (remove_steps t) 7 (Store 0 (Const 0)) step h
    (two_used (remove_steps t) 7 (Of 0) (Const 0)
    (record { by = 0; place = t.lock + 1; earlier = omega arith; loads = refl }) tt)
remove_used t (suc (suc (suc (suc (suc (suc (suc (suc zero)))))))) step h = used_by (remove_steps t) 8 (Retire (operand t 2)) step h
    (nothing_used (remove_steps t) 8)
remove_used t (suc (suc (suc (suc (suc (suc (suc (suc (suc zero))))))))) step h = used_by (remove_steps t) 9 (Answer (4 * 2 ^ 32)) step h
    (nothing_used (remove_steps t) 9)
remove_used t (suc (suc (suc (suc (suc (suc (suc (suc (suc (suc i)))))))))) step h = absurd (cc)

abbrev remove_phase : ℕ → ℕ
remove_phase j = cond (nat_lt j 5) 1 (cond (nat_lt j 6) 3 (cond (nat_lt j 8) 4 (cond (nat_lt j 9) 5 (6))))

remove_phase_at : (t : Thunk) (j : ℕ) (step : Step) → IsStep (remove_steps t) j step → phase step ≡ remove_phase j
remove_phase_at t zero step h = ap phase (sym (some_inj h))
remove_phase_at t (suc zero) step h = ap phase (sym (some_inj h))
remove_phase_at t (suc (suc zero)) step h = ap phase (sym (some_inj h))
remove_phase_at t (suc (suc (suc zero))) step h = ap phase (sym (some_inj h))
remove_phase_at t (suc (suc (suc (suc zero)))) step h = ap phase (sym (some_inj h))
remove_phase_at t (suc (suc (suc (suc (suc zero))))) step h = ap phase (sym (some_inj h))
remove_phase_at t (suc (suc (suc (suc (suc (suc zero)))))) step h = ap phase (sym (some_inj h))
remove_phase_at t (suc (suc (suc (suc (suc (suc (suc zero))))))) step h = ap phase (sym (some_inj h))
remove_phase_at t (suc (suc (suc (suc (suc (suc (suc (suc zero)))))))) step h = ap phase (sym (some_inj h))
remove_phase_at t (suc (suc (suc (suc (suc (suc (suc (suc (suc zero))))))))) step h = ap phase (sym (some_inj h))
remove_phase_at t (suc (suc (suc (suc (suc (suc (suc (suc (suc (suc j)))))))))) step h = absurd (cc)

remove_phase_rises : (i j : ℕ) → i < j → remove_phase i ≤ remove_phase j
remove_phase_rises i j lt = grind arith

abbrev remove_places : ℕ → ℕ
remove_places reg = cond (reg == 0) 0 (cond (reg == 1) 3 (0))

remove_sets : (t : Thunk) (i : ℕ) (step : Step) → IsStep (remove_steps t) i step → IsSetAt remove_places i step
remove_sets t zero step h = known_set remove_places 0 (Load (t.lock + 1) 0) step h
    (λ reg has. sets_one remove_places 0 0 reg refl (omega arith) has)
remove_sets t (suc zero) step h = known_set remove_places 1 (Want 0 (operand t 0)) step h
    (λ reg has. absurd (no_reg reg has))
remove_sets t (suc (suc zero)) step h = known_set remove_places 2 (Fresh 0) step h
    (λ reg has. absurd (no_reg reg has))
remove_sets t (suc (suc (suc zero))) step h = known_set remove_places 3 (Load (operand t 1) 1) step h
    (λ reg has. sets_one remove_places 3 1 reg refl (omega arith) has)
remove_sets t (suc (suc (suc (suc zero)))) step h = known_set remove_places 4 (Fresh 1) step h
    (λ reg has. absurd (no_reg reg has))
remove_sets t (suc (suc (suc (suc (suc zero))))) step h = known_set remove_places 5 (Stamp) step h
    (λ reg has. absurd (no_reg reg has))
remove_sets t (suc (suc (suc (suc (suc (suc zero)))))) step h = known_set remove_places 6 (Store 1 (Const (operand t 3))) step h
    (λ reg has. absurd (no_reg reg has))
remove_sets t (suc (suc (suc (suc (suc (suc (suc zero))))))) step h = known_set remove_places 7 (Store 0 (Const 0)) step h
    (λ reg has. absurd (no_reg reg has))
remove_sets t (suc (suc (suc (suc (suc (suc (suc (suc zero)))))))) step h = known_set remove_places 8 (Retire (operand t 2)) step h
    (λ reg has. absurd (no_reg reg has))
remove_sets t (suc (suc (suc (suc (suc (suc (suc (suc (suc zero))))))))) step h = known_set remove_places 9 (Answer (4 * 2 ^ 32)) step h
    (λ reg has. absurd (no_reg reg has))
remove_sets t (suc (suc (suc (suc (suc (suc (suc (suc (suc (suc i)))))))))) step h = absurd (cc)

abbrev remove_stored : Thunk → ℕ → ℕ
remove_stored t i = cond (i == 6) (operand t 1) (cond (i == 7) (t.lock + 1) (0))

remove_store_at : (t : Thunk) (i reg : ℕ) (v : Value) → IsStep (remove_steps t) i (Store reg v)
    → (store_place (remove_steps t) i reg ≡ remove_stored t i) × (6 ≤ i) × (i ≤ 7)
remove_store_at t zero reg v h = absurd (let is = some_inj h in cc)
remove_store_at t (suc zero) reg v h = absurd (let is = some_inj h in cc)
remove_store_at t (suc (suc zero)) reg v h = absurd (let is = some_inj h in cc)
remove_store_at t (suc (suc (suc zero))) reg v h = absurd (let is = some_inj h in cc)
remove_store_at t (suc (suc (suc (suc zero)))) reg v h = absurd (let is = some_inj h in cc)
remove_store_at t (suc (suc (suc (suc (suc zero))))) reg v h = absurd (let is = some_inj h in cc)
remove_store_at t (suc (suc (suc (suc (suc (suc zero)))))) reg v h = (ap (store_place (remove_steps t) 6) (sym (stored_reg (some_inj h))), omega arith, omega arith)
remove_store_at t (suc (suc (suc (suc (suc (suc (suc zero))))))) reg v h = (ap (store_place (remove_steps t) 7) (sym (stored_reg (some_inj h))), omega arith, omega arith)
remove_store_at t (suc (suc (suc (suc (suc (suc (suc (suc zero)))))))) reg v h = absurd (let is = some_inj h in cc)
remove_store_at t (suc (suc (suc (suc (suc (suc (suc (suc (suc zero))))))))) reg v h = absurd (let is = some_inj h in cc)
remove_store_at t (suc (suc (suc (suc (suc (suc (suc (suc (suc (suc i)))))))))) reg v h = absurd (cc)

-- the steps of set_steps t
set_used : (t : Thunk) (i : ℕ) (step : Step) → IsStep (set_steps t) i step
    → All (SetBefore (set_steps t) i) (used_values step)
set_used t zero step h = used_by (set_steps t) 0 (Load (t.lock + 1) 0) step h
    (nothing_used (set_steps t) 0)
set_used t (suc zero) step h = used_by (set_steps t) 1 (Want 0 (operand t 0)) step h
    (one_used (set_steps t) 1 (Of 0)
    (record { by = 0; place = t.lock + 1; earlier = omega arith; loads = refl }))
set_used t (suc (suc zero)) step h = used_by (set_steps t) 2 (Fresh 0) step h
    (one_used (set_steps t) 2 (Of 0)
    (record { by = 0; place = t.lock + 1; earlier = omega arith; loads = refl }))
set_used t (suc (suc (suc zero))) step h = used_by (set_steps t) 3 (Load (operand t 1) 1) step h
    (nothing_used (set_steps t) 3)
set_used t (suc (suc (suc (suc zero)))) step h = used_by (set_steps t) 4 (Fresh 1) step h
    (one_used (set_steps t) 4 (Of 1)
    (record { by = 3; place = operand t 1; earlier = omega arith; loads = refl }))
set_used t (suc (suc (suc (suc (suc zero))))) step h = used_by (set_steps t) 5 (Stamp) step h
    (nothing_used (set_steps t) 5)
set_used t (suc (suc (suc (suc (suc (suc zero)))))) step h = used_by (set_steps t) 6 (Store 1 (Const (operand t 2))) step h
    (two_used (set_steps t) 6 (Of 1) (Const (operand t 2))
    (record { by = 3; place = operand t 1; earlier = omega arith; loads = refl }) tt)
set_used t (suc (suc (suc (suc (suc (suc (suc zero))))))) step h = used_by (set_steps t) 7 (Store 0 (Const 0)) step h
    (two_used (set_steps t) 7 (Of 0) (Const 0)
    (record { by = 0; place = t.lock + 1; earlier = omega arith; loads = refl }) tt)
set_used t (suc (suc (suc (suc (suc (suc (suc (suc zero)))))))) step h = used_by (set_steps t) 8 (Answer (operand t 3)) step h
    (nothing_used (set_steps t) 8)
set_used t (suc (suc (suc (suc (suc (suc (suc (suc (suc i))))))))) step h = absurd (cc)

abbrev set_phase : ℕ → ℕ
set_phase j = cond (nat_lt j 5) 1 (cond (nat_lt j 6) 3 (cond (nat_lt j 8) 4 (6)))

set_phase_at : (t : Thunk) (j : ℕ) (step : Step) → IsStep (set_steps t) j step → phase step ≡ set_phase j
set_phase_at t zero step h = ap phase (sym (some_inj h))
set_phase_at t (suc zero) step h = ap phase (sym (some_inj h))
set_phase_at t (suc (suc zero)) step h = ap phase (sym (some_inj h))
set_phase_at t (suc (suc (suc zero))) step h = ap phase (sym (some_inj h))
set_phase_at t (suc (suc (suc (suc zero)))) step h = ap phase (sym (some_inj h))
set_phase_at t (suc (suc (suc (suc (suc zero))))) step h = ap phase (sym (some_inj h))
set_phase_at t (suc (suc (suc (suc (suc (suc zero)))))) step h = ap phase (sym (some_inj h))
set_phase_at t (suc (suc (suc (suc (suc (suc (suc zero))))))) step h = ap phase (sym (some_inj h))
set_phase_at t (suc (suc (suc (suc (suc (suc (suc (suc zero)))))))) step h = ap phase (sym (some_inj h))
set_phase_at t (suc (suc (suc (suc (suc (suc (suc (suc (suc j))))))))) step h = absurd (cc)

set_phase_rises : (i j : ℕ) → i < j → set_phase i ≤ set_phase j
set_phase_rises i j lt = grind arith

abbrev set_places : ℕ → ℕ
set_places reg = cond (reg == 0) 0 (cond (reg == 1) 3 (0))

set_sets : (t : Thunk) (i : ℕ) (step : Step) → IsStep (set_steps t) i step → IsSetAt set_places i step
set_sets t zero step h = known_set set_places 0 (Load (t.lock + 1) 0) step h
    (λ reg has. sets_one set_places 0 0 reg refl (omega arith) has)
set_sets t (suc zero) step h = known_set set_places 1 (Want 0 (operand t 0)) step h
    (λ reg has. absurd (no_reg reg has))
set_sets t (suc (suc zero)) step h = known_set set_places 2 (Fresh 0) step h
    (λ reg has. absurd (no_reg reg has))
set_sets t (suc (suc (suc zero))) step h = known_set set_places 3 (Load (operand t 1) 1) step h
    (λ reg has. sets_one set_places 3 1 reg refl (omega arith) has)
set_sets t (suc (suc (suc (suc zero)))) step h = known_set set_places 4 (Fresh 1) step h
    (λ reg has. absurd (no_reg reg has))
set_sets t (suc (suc (suc (suc (suc zero))))) step h = known_set set_places 5 (Stamp) step h
    (λ reg has. absurd (no_reg reg has))
set_sets t (suc (suc (suc (suc (suc (suc zero)))))) step h = known_set set_places 6 (Store 1 (Const (operand t 2))) step h
    (λ reg has. absurd (no_reg reg has))
set_sets t (suc (suc (suc (suc (suc (suc (suc zero))))))) step h = known_set set_places 7 (Store 0 (Const 0)) step h
    (λ reg has. absurd (no_reg reg has))
set_sets t (suc (suc (suc (suc (suc (suc (suc (suc zero)))))))) step h = known_set set_places 8 (Answer (operand t 3)) step h
    (λ reg has. absurd (no_reg reg has))
set_sets t (suc (suc (suc (suc (suc (suc (suc (suc (suc i))))))))) step h = absurd (cc)

abbrev set_stored : Thunk → ℕ → ℕ
set_stored t i = cond (i == 6) (operand t 1) (cond (i == 7) (t.lock + 1) (0))

set_store_at : (t : Thunk) (i reg : ℕ) (v : Value) → IsStep (set_steps t) i (Store reg v)
    → (store_place (set_steps t) i reg ≡ set_stored t i) × (6 ≤ i) × (i ≤ 7)
set_store_at t zero reg v h = absurd (let is = some_inj h in cc)
set_store_at t (suc zero) reg v h = absurd (let is = some_inj h in cc)
set_store_at t (suc (suc zero)) reg v h = absurd (let is = some_inj h in cc)
set_store_at t (suc (suc (suc zero))) reg v h = absurd (let is = some_inj h in cc)
set_store_at t (suc (suc (suc (suc zero)))) reg v h = absurd (let is = some_inj h in cc)
set_store_at t (suc (suc (suc (suc (suc zero))))) reg v h = absurd (let is = some_inj h in cc)
set_store_at t (suc (suc (suc (suc (suc (suc zero)))))) reg v h = (ap (store_place (set_steps t) 6) (sym (stored_reg (some_inj h))), omega arith, omega arith)
set_store_at t (suc (suc (suc (suc (suc (suc (suc zero))))))) reg v h = (ap (store_place (set_steps t) 7) (sym (stored_reg (some_inj h))), omega arith, omega arith)
set_store_at t (suc (suc (suc (suc (suc (suc (suc (suc zero)))))))) reg v h = absurd (let is = some_inj h in cc)
set_store_at t (suc (suc (suc (suc (suc (suc (suc (suc (suc i))))))))) reg v h = absurd (cc)

-- the steps of look_two_steps t
look_two_used : (t : Thunk) (i : ℕ) (step : Step) → IsStep (look_two_steps t) i step
    → All (SetBefore (look_two_steps t) i) (used_values step)
look_two_used t zero step h = used_by (look_two_steps t) 0 (Load (t.lock + 1) 0) step h
    (nothing_used (look_two_steps t) 0)
look_two_used t (suc zero) step h = used_by (look_two_steps t) 1 (Want 0 (operand t 0)) step h
    (one_used (look_two_steps t) 1 (Of 0)
    (record { by = 0; place = t.lock + 1; earlier = omega arith; loads = refl }))
look_two_used t (suc (suc zero)) step h = used_by (look_two_steps t) 2 (Take (operand t 3) (operand t 1)) step h
    (nothing_used (look_two_steps t) 2)
look_two_used t (suc (suc (suc zero))) step h = used_by (look_two_steps t) 3 (Load (operand t 3 + 1) 1) step h
    (nothing_used (look_two_steps t) 3)
look_two_used t (suc (suc (suc (suc zero)))) step h = used_by (look_two_steps t) 4 (Want 1 (operand t 2)) step h
    (one_used (look_two_steps t) 4 (Of 1)
    (record { by = 3; place = operand t 3 + 1; earlier = omega arith; loads = refl }))
look_two_used t (suc (suc (suc (suc (suc zero))))) step h = used_by (look_two_steps t) 5 (Stamp) step h
    (nothing_used (look_two_steps t) 5)
look_two_used t (suc (suc (suc (suc (suc (suc zero)))))) step h = used_by (look_two_steps t) 6 (Answer (operand t 7)) step h
    (nothing_used (look_two_steps t) 6)
look_two_used t (suc (suc (suc (suc (suc (suc (suc i))))))) step h = absurd (cc)

abbrev look_two_phase : ℕ → ℕ
look_two_phase j = cond (nat_lt j 5) 1 (cond (nat_lt j 6) 3 (6))

look_two_phase_at : (t : Thunk) (j : ℕ) (step : Step) → IsStep (look_two_steps t) j step → phase step ≡ look_two_phase j
look_two_phase_at t zero step h = ap phase (sym (some_inj h))
look_two_phase_at t (suc zero) step h = ap phase (sym (some_inj h))
look_two_phase_at t (suc (suc zero)) step h = ap phase (sym (some_inj h))
look_two_phase_at t (suc (suc (suc zero))) step h = ap phase (sym (some_inj h))
look_two_phase_at t (suc (suc (suc (suc zero)))) step h = ap phase (sym (some_inj h))
look_two_phase_at t (suc (suc (suc (suc (suc zero))))) step h = ap phase (sym (some_inj h))
look_two_phase_at t (suc (suc (suc (suc (suc (suc zero)))))) step h = ap phase (sym (some_inj h))
look_two_phase_at t (suc (suc (suc (suc (suc (suc (suc j))))))) step h = absurd (cc)

look_two_phase_rises : (i j : ℕ) → i < j → look_two_phase i ≤ look_two_phase j
look_two_phase_rises i j lt = grind arith

abbrev look_two_places : ℕ → ℕ
look_two_places reg = cond (reg == 0) 0 (cond (reg == 1) 3 (0))

look_two_sets : (t : Thunk) (i : ℕ) (step : Step) → IsStep (look_two_steps t) i step → IsSetAt look_two_places i step
look_two_sets t zero step h = known_set look_two_places 0 (Load (t.lock + 1) 0) step h
    (λ reg has. sets_one look_two_places 0 0 reg refl (omega arith) has)
look_two_sets t (suc zero) step h = known_set look_two_places 1 (Want 0 (operand t 0)) step h
    (λ reg has. absurd (no_reg reg has))
look_two_sets t (suc (suc zero)) step h = known_set look_two_places 2 (Take (operand t 3) (operand t 1)) step h
    (λ reg has. absurd (no_reg reg has))
look_two_sets t (suc (suc (suc zero))) step h = known_set look_two_places 3 (Load (operand t 3 + 1) 1) step h
    (λ reg has. sets_one look_two_places 3 1 reg refl (omega arith) has)
look_two_sets t (suc (suc (suc (suc zero)))) step h = known_set look_two_places 4 (Want 1 (operand t 2)) step h
    (λ reg has. absurd (no_reg reg has))
look_two_sets t (suc (suc (suc (suc (suc zero))))) step h = known_set look_two_places 5 (Stamp) step h
    (λ reg has. absurd (no_reg reg has))
look_two_sets t (suc (suc (suc (suc (suc (suc zero)))))) step h = known_set look_two_places 6 (Answer (operand t 7)) step h
    (λ reg has. absurd (no_reg reg has))
look_two_sets t (suc (suc (suc (suc (suc (suc (suc i))))))) step h = absurd (cc)

-- the steps of move_steps t
move_used : (t : Thunk) (i : ℕ) (step : Step) → IsStep (move_steps t) i step
    → All (SetBefore (move_steps t) i) (used_values step)
move_used t zero step h = used_by (move_steps t) 0 (Load (t.lock + 1) 0) step h
    (nothing_used (move_steps t) 0)
move_used t (suc zero) step h = used_by (move_steps t) 1 (Want 0 (operand t 0)) step h
    (one_used (move_steps t) 1 (Of 0)
    (record { by = 0; place = t.lock + 1; earlier = omega arith; loads = refl }))
move_used t (suc (suc zero)) step h = used_by (move_steps t) 2 (Fresh 0) step h
    (one_used (move_steps t) 2 (Of 0)
    (record { by = 0; place = t.lock + 1; earlier = omega arith; loads = refl }))
move_used t (suc (suc (suc zero))) step h = used_by (move_steps t) 3 (Take (higher_lock t) (operand t 1)) step h
    (nothing_used (move_steps t) 3)
move_used t (suc (suc (suc (suc zero)))) step h = used_by (move_steps t) 4 (Load (higher_lock t + 1) 1) step h
    (nothing_used (move_steps t) 4)
move_used t (suc (suc (suc (suc (suc zero))))) step h = used_by (move_steps t) 5 (Want 1 (operand t 2)) step h
    (one_used (move_steps t) 5 (Of 1)
    (record { by = 4; place = higher_lock t + 1; earlier = omega arith; loads = refl }))
move_used t (suc (suc (suc (suc (suc (suc zero)))))) step h = used_by (move_steps t) 6 (Fresh 1) step h
    (one_used (move_steps t) 6 (Of 1)
    (record { by = 4; place = higher_lock t + 1; earlier = omega arith; loads = refl }))
move_used t (suc (suc (suc (suc (suc (suc (suc zero))))))) step h = used_by (move_steps t) 7 (Load (low_half t 4) 2) step h
    (nothing_used (move_steps t) 7)
move_used t (suc (suc (suc (suc (suc (suc (suc (suc zero)))))))) step h = used_by (move_steps t) 8 (Fresh 2) step h
    (one_used (move_steps t) 8 (Of 2)
    (record { by = 7; place = low_half t 4; earlier = omega arith; loads = refl }))
move_used t (suc (suc (suc (suc (suc (suc (suc (suc (suc zero))))))))) step h = used_by (move_steps t) 9 (Load (target_lock t + 2) 3) step h
    (nothing_used (move_steps t) 9)
move_used t (suc (suc (suc (suc (suc (suc (suc (suc (suc (suc zero)))))))))) step h = used_by (move_steps t) 10 (Fresh 3) step h
    (one_used (move_steps t) 10 (Of 3)
    (record { by = 9; place = target_lock t + 2; earlier = omega arith; loads = refl }))
move_used t (suc (suc (suc (suc (suc (suc (suc (suc (suc (suc (suc zero))))))))))) step h = used_by (move_steps t) 11 (Make (moved_node (low_half t 6) (high_half t 6) (high_half t 5)) 4) step h
    (node_used (move_steps t) 11 (low_half t 6) (high_half t 6) (high_half t 5))
move_used t (suc (suc (suc (suc (suc (suc (suc (suc (suc (suc (suc (suc zero)))))))))))) step h = used_by (move_steps t) 12 (Stamp) step h
    (nothing_used (move_steps t) 12)
move_used t (suc (suc (suc (suc (suc (suc (suc (suc (suc (suc (suc (suc (suc zero))))))))))))) step h = used_by (move_steps t) 13 (Store 2 (Const (low_half t 5))) step h
    (two_used (move_steps t) 13 (Of 2) (Const (low_half t 5))
    (record { by = 7; place = low_half t 4; earlier = omega arith; loads = refl }) tt)
move_used t (suc (suc (suc (suc (suc (suc (suc (suc (suc (suc (suc (suc (suc (suc zero)))))))))))))) step h = used_by (move_steps t) 14 (Store 3 (Made 4)) step h
    (two_used (move_steps t) 14 (Of 3) (Made 4)
    (record { by = 9; place = target_lock t + 2; earlier = omega arith; loads = refl }) (record { by = 11; init = moved_node (low_half t 6) (high_half t 6) (high_half t 5); earlier = omega arith; makes = refl }))
move_used t (suc (suc (suc (suc (suc (suc (suc (suc (suc (suc (suc (suc (suc (suc (suc zero))))))))))))))) step h = used_by (move_steps t) 15 (Store 0 (Const 0)) step h
    (two_used (move_steps t) 15 (Of 0) (Const 0)
    (record { by = 0; place = t.lock + 1; earlier = omega arith; loads = refl }) tt)
move_used t (suc (suc (suc (suc (suc (suc (suc (suc (suc (suc (suc (suc (suc (suc (suc (suc zero)))))))))))))))) step h = used_by (move_steps t) 16 (Store 1 (Const 0)) step h
    (two_used (move_steps t) 16 (Of 1) (Const 0)
    (record { by = 4; place = higher_lock t + 1; earlier = omega arith; loads = refl }) tt)
move_used t (suc (suc (suc (suc (suc (suc (suc (suc (suc (suc (suc (suc (suc (suc (suc (suc (suc zero))))))))))))))))) step h = used_by (move_steps t) 17 (Retire (high_half t 4)) step h
    (nothing_used (move_steps t) 17)
move_used t (suc (suc (suc (suc (suc (suc (suc (suc (suc (suc (suc (suc (suc (suc (suc (suc (suc (suc zero)))))))))))))))))) step h = used_by (move_steps t) 18 (Answer (7 * 2 ^ 32)) step h
    (nothing_used (move_steps t) 18)
move_used t (suc (suc (suc (suc (suc (suc (suc (suc (suc (suc (suc (suc (suc (suc (suc (suc (suc (suc (suc i))))))))))))))))))) step h = absurd (cc)

abbrev move_phase : ℕ → ℕ
move_phase j = cond (nat_lt j 11) 1 (cond (nat_lt j 12) 2 (cond (nat_lt j 13) 3 (cond (nat_lt j 17) 4 (cond (nat_lt j 18) 5 (6)))))

move_phase_at : (t : Thunk) (j : ℕ) (step : Step) → IsStep (move_steps t) j step → phase step ≡ move_phase j
move_phase_at t zero step h = ap phase (sym (some_inj h))
move_phase_at t (suc zero) step h = ap phase (sym (some_inj h))
move_phase_at t (suc (suc zero)) step h = ap phase (sym (some_inj h))
move_phase_at t (suc (suc (suc zero))) step h = ap phase (sym (some_inj h))
move_phase_at t (suc (suc (suc (suc zero)))) step h = ap phase (sym (some_inj h))
move_phase_at t (suc (suc (suc (suc (suc zero))))) step h = ap phase (sym (some_inj h))
move_phase_at t (suc (suc (suc (suc (suc (suc zero)))))) step h = ap phase (sym (some_inj h))
move_phase_at t (suc (suc (suc (suc (suc (suc (suc zero))))))) step h = ap phase (sym (some_inj h))
move_phase_at t (suc (suc (suc (suc (suc (suc (suc (suc zero)))))))) step h = ap phase (sym (some_inj h))
move_phase_at t (suc (suc (suc (suc (suc (suc (suc (suc (suc zero))))))))) step h = ap phase (sym (some_inj h))
move_phase_at t (suc (suc (suc (suc (suc (suc (suc (suc (suc (suc zero)))))))))) step h = ap phase (sym (some_inj h))
move_phase_at t (suc (suc (suc (suc (suc (suc (suc (suc (suc (suc (suc zero))))))))))) step h = ap phase (sym (some_inj h))
move_phase_at t (suc (suc (suc (suc (suc (suc (suc (suc (suc (suc (suc (suc zero)))))))))))) step h = ap phase (sym (some_inj h))
move_phase_at t (suc (suc (suc (suc (suc (suc (suc (suc (suc (suc (suc (suc (suc zero))))))))))))) step h = ap phase (sym (some_inj h))
move_phase_at t (suc (suc (suc (suc (suc (suc (suc (suc (suc (suc (suc (suc (suc (suc zero)))))))))))))) step h = ap phase (sym (some_inj h))
move_phase_at t (suc (suc (suc (suc (suc (suc (suc (suc (suc (suc (suc (suc (suc (suc (suc zero))))))))))))))) step h = ap phase (sym (some_inj h))
move_phase_at t (suc (suc (suc (suc (suc (suc (suc (suc (suc (suc (suc (suc (suc (suc (suc (suc zero)))))))))))))))) step h = ap phase (sym (some_inj h))
move_phase_at t (suc (suc (suc (suc (suc (suc (suc (suc (suc (suc (suc (suc (suc (suc (suc (suc (suc zero))))))))))))))))) step h = ap phase (sym (some_inj h))
move_phase_at t (suc (suc (suc (suc (suc (suc (suc (suc (suc (suc (suc (suc (suc (suc (suc (suc (suc (suc zero)))))))))))))))))) step h = ap phase (sym (some_inj h))
move_phase_at t (suc (suc (suc (suc (suc (suc (suc (suc (suc (suc (suc (suc (suc (suc (suc (suc (suc (suc (suc j))))))))))))))))))) step h = absurd (cc)

move_phase_rises : (i j : ℕ) → i < j → move_phase i ≤ move_phase j
move_phase_rises i j lt = grind arith

abbrev move_places : ℕ → ℕ
move_places reg = cond (reg == 0) 0 (cond (reg == 1) 4 (cond (reg == 2) 7 (cond (reg == 3) 9 (cond (reg == 4) 11 (0)))))

move_sets : (t : Thunk) (i : ℕ) (step : Step) → IsStep (move_steps t) i step → IsSetAt move_places i step
move_sets t zero step h = known_set move_places 0 (Load (t.lock + 1) 0) step h
    (λ reg has. sets_one move_places 0 0 reg refl (omega arith) has)
move_sets t (suc zero) step h = known_set move_places 1 (Want 0 (operand t 0)) step h
    (λ reg has. absurd (no_reg reg has))
move_sets t (suc (suc zero)) step h = known_set move_places 2 (Fresh 0) step h
    (λ reg has. absurd (no_reg reg has))
move_sets t (suc (suc (suc zero))) step h = known_set move_places 3 (Take (higher_lock t) (operand t 1)) step h
    (λ reg has. absurd (no_reg reg has))
move_sets t (suc (suc (suc (suc zero)))) step h = known_set move_places 4 (Load (higher_lock t + 1) 1) step h
    (λ reg has. sets_one move_places 4 1 reg refl (omega arith) has)
move_sets t (suc (suc (suc (suc (suc zero))))) step h = known_set move_places 5 (Want 1 (operand t 2)) step h
    (λ reg has. absurd (no_reg reg has))
move_sets t (suc (suc (suc (suc (suc (suc zero)))))) step h = known_set move_places 6 (Fresh 1) step h
    (λ reg has. absurd (no_reg reg has))
move_sets t (suc (suc (suc (suc (suc (suc (suc zero))))))) step h = known_set move_places 7 (Load (low_half t 4) 2) step h
    (λ reg has. sets_one move_places 7 2 reg refl (omega arith) has)
move_sets t (suc (suc (suc (suc (suc (suc (suc (suc zero)))))))) step h = known_set move_places 8 (Fresh 2) step h
    (λ reg has. absurd (no_reg reg has))
move_sets t (suc (suc (suc (suc (suc (suc (suc (suc (suc zero))))))))) step h = known_set move_places 9 (Load (target_lock t + 2) 3) step h
    (λ reg has. sets_one move_places 9 3 reg refl (omega arith) has)
move_sets t (suc (suc (suc (suc (suc (suc (suc (suc (suc (suc zero)))))))))) step h = known_set move_places 10 (Fresh 3) step h
    (λ reg has. absurd (no_reg reg has))
move_sets t (suc (suc (suc (suc (suc (suc (suc (suc (suc (suc (suc zero))))))))))) step h = known_set move_places 11 (Make (moved_node (low_half t 6) (high_half t 6) (high_half t 5)) 4) step h
    (λ reg has. sets_one move_places 11 4 reg refl (omega arith) has)
move_sets t (suc (suc (suc (suc (suc (suc (suc (suc (suc (suc (suc (suc zero)))))))))))) step h = known_set move_places 12 (Stamp) step h
    (λ reg has. absurd (no_reg reg has))
move_sets t (suc (suc (suc (suc (suc (suc (suc (suc (suc (suc (suc (suc (suc zero))))))))))))) step h = known_set move_places 13 (Store 2 (Const (low_half t 5))) step h
    (λ reg has. absurd (no_reg reg has))
move_sets t (suc (suc (suc (suc (suc (suc (suc (suc (suc (suc (suc (suc (suc (suc zero)))))))))))))) step h = known_set move_places 14 (Store 3 (Made 4)) step h
    (λ reg has. absurd (no_reg reg has))
move_sets t (suc (suc (suc (suc (suc (suc (suc (suc (suc (suc (suc (suc (suc (suc (suc zero))))))))))))))) step h = known_set move_places 15 (Store 0 (Const 0)) step h
    (λ reg has. absurd (no_reg reg has))
move_sets t (suc (suc (suc (suc (suc (suc (suc (suc (suc (suc (suc (suc (suc (suc (suc (suc zero)))))))))))))))) step h = known_set move_places 16 (Store 1 (Const 0)) step h
    (λ reg has. absurd (no_reg reg has))
move_sets t (suc (suc (suc (suc (suc (suc (suc (suc (suc (suc (suc (suc (suc (suc (suc (suc (suc zero))))))))))))))))) step h = known_set move_places 17 (Retire (high_half t 4)) step h
    (λ reg has. absurd (no_reg reg has))
move_sets t (suc (suc (suc (suc (suc (suc (suc (suc (suc (suc (suc (suc (suc (suc (suc (suc (suc (suc zero)))))))))))))))))) step h = known_set move_places 18 (Answer (7 * 2 ^ 32)) step h
    (λ reg has. absurd (no_reg reg has))
move_sets t (suc (suc (suc (suc (suc (suc (suc (suc (suc (suc (suc (suc (suc (suc (suc (suc (suc (suc (suc i))))))))))))))))))) step h = absurd (cc)

abbrev move_stored : Thunk → ℕ → ℕ
move_stored t i = cond (i == 13) (low_half t 4) (cond (i == 14) (target_lock t + 2) (cond (i == 15) (t.lock + 1) (cond (i == 16) (higher_lock t + 1) (0))))

move_store_at : (t : Thunk) (i reg : ℕ) (v : Value) → IsStep (move_steps t) i (Store reg v)
    → (store_place (move_steps t) i reg ≡ move_stored t i) × (13 ≤ i) × (i ≤ 16)
move_store_at t zero reg v h = absurd (let is = some_inj h in cc)
move_store_at t (suc zero) reg v h = absurd (let is = some_inj h in cc)
move_store_at t (suc (suc zero)) reg v h = absurd (let is = some_inj h in cc)
move_store_at t (suc (suc (suc zero))) reg v h = absurd (let is = some_inj h in cc)
move_store_at t (suc (suc (suc (suc zero)))) reg v h = absurd (let is = some_inj h in cc)
move_store_at t (suc (suc (suc (suc (suc zero))))) reg v h = absurd (let is = some_inj h in cc)
move_store_at t (suc (suc (suc (suc (suc (suc zero)))))) reg v h = absurd (let is = some_inj h in cc)
move_store_at t (suc (suc (suc (suc (suc (suc (suc zero))))))) reg v h = absurd (let is = some_inj h in cc)
move_store_at t (suc (suc (suc (suc (suc (suc (suc (suc zero)))))))) reg v h = absurd (let is = some_inj h in cc)
move_store_at t (suc (suc (suc (suc (suc (suc (suc (suc (suc zero))))))))) reg v h = absurd (let is = some_inj h in cc)
move_store_at t (suc (suc (suc (suc (suc (suc (suc (suc (suc (suc zero)))))))))) reg v h = absurd (let is = some_inj h in cc)
move_store_at t (suc (suc (suc (suc (suc (suc (suc (suc (suc (suc (suc zero))))))))))) reg v h = absurd (let is = some_inj h in cc)
move_store_at t (suc (suc (suc (suc (suc (suc (suc (suc (suc (suc (suc (suc zero)))))))))))) reg v h = absurd (let is = some_inj h in cc)
move_store_at t (suc (suc (suc (suc (suc (suc (suc (suc (suc (suc (suc (suc (suc zero))))))))))))) reg v h = (ap (store_place (move_steps t) 13) (sym (stored_reg (some_inj h))), omega arith, omega arith)
move_store_at t (suc (suc (suc (suc (suc (suc (suc (suc (suc (suc (suc (suc (suc (suc zero)))))))))))))) reg v h = (ap (store_place (move_steps t) 14) (sym (stored_reg (some_inj h))), omega arith, omega arith)
move_store_at t (suc (suc (suc (suc (suc (suc (suc (suc (suc (suc (suc (suc (suc (suc (suc zero))))))))))))))) reg v h = (ap (store_place (move_steps t) 15) (sym (stored_reg (some_inj h))), omega arith, omega arith)
move_store_at t (suc (suc (suc (suc (suc (suc (suc (suc (suc (suc (suc (suc (suc (suc (suc (suc zero)))))))))))))))) reg v h = (ap (store_place (move_steps t) 16) (sym (stored_reg (some_inj h))), omega arith, omega arith)
move_store_at t (suc (suc (suc (suc (suc (suc (suc (suc (suc (suc (suc (suc (suc (suc (suc (suc (suc zero))))))))))))))))) reg v h = absurd (let is = some_inj h in cc)
move_store_at t (suc (suc (suc (suc (suc (suc (suc (suc (suc (suc (suc (suc (suc (suc (suc (suc (suc (suc zero)))))))))))))))))) reg v h = absurd (let is = some_inj h in cc)
move_store_at t (suc (suc (suc (suc (suc (suc (suc (suc (suc (suc (suc (suc (suc (suc (suc (suc (suc (suc (suc i))))))))))))))))))) reg v h = absurd (cc)

-- the steps of rename_steps t
rename_used : (t : Thunk) (i : ℕ) (step : Step) → IsStep (rename_steps t) i step
    → All (SetBefore (rename_steps t) i) (used_values step)
rename_used t zero step h = used_by (rename_steps t) 0 (Load (t.lock + 1) 0) step h
    (nothing_used (rename_steps t) 0)
rename_used t (suc zero) step h = used_by (rename_steps t) 1 (Want 0 (operand t 0)) step h
    (one_used (rename_steps t) 1 (Of 0)
    (record { by = 0; place = t.lock + 1; earlier = omega arith; loads = refl }))
rename_used t (suc (suc zero)) step h = used_by (rename_steps t) 2 (Fresh 0) step h
    (one_used (rename_steps t) 2 (Of 0)
    (record { by = 0; place = t.lock + 1; earlier = omega arith; loads = refl }))
rename_used t (suc (suc (suc zero))) step h = used_by (rename_steps t) 3 (Load (operand t 1) 1) step h
    (nothing_used (rename_steps t) 3)
rename_used t (suc (suc (suc (suc zero)))) step h = used_by (rename_steps t) 4 (Fresh 1) step h
    (one_used (rename_steps t) 4 (Of 1)
    (record { by = 3; place = operand t 1; earlier = omega arith; loads = refl }))
rename_used t (suc (suc (suc (suc (suc zero))))) step h = used_by (rename_steps t) 5 (Make (moved_node (operand t 4) (operand t 5) (operand t 3)) 2) step h
    (node_used (rename_steps t) 5 (operand t 4) (operand t 5) (operand t 3))
rename_used t (suc (suc (suc (suc (suc (suc zero)))))) step h = used_by (rename_steps t) 6 (Stamp) step h
    (nothing_used (rename_steps t) 6)
rename_used t (suc (suc (suc (suc (suc (suc (suc zero))))))) step h = used_by (rename_steps t) 7 (Store 1 (Made 2)) step h
    (two_used (rename_steps t) 7 (Of 1) (Made 2)
    (record { by = 3; place = operand t 1; earlier = omega arith; loads = refl }) (record { by = 5; init = moved_node (operand t 4) (operand t 5) (operand t 3); earlier = omega arith; makes = refl }))
rename_used t (suc (suc (suc (suc (suc (suc (suc (suc zero)))))))) step h = used_by (rename_steps t) 8 (Store 0 (Const 0)) step h
    (two_used (rename_steps t) 8 (Of 0) (Const 0)
    (record { by = 0; place = t.lock + 1; earlier = omega arith; loads = refl }) tt)
rename_used t (suc (suc (suc (suc (suc (suc (suc (suc (suc zero))))))))) step h = used_by (rename_steps t) 9 (Retire (operand t 2)) step h
    (nothing_used (rename_steps t) 9)
rename_used t (suc (suc (suc (suc (suc (suc (suc (suc (suc (suc zero)))))))))) step h = used_by (rename_steps t) 10 (Answer (7 * 2 ^ 32)) step h
    (nothing_used (rename_steps t) 10)
rename_used t (suc (suc (suc (suc (suc (suc (suc (suc (suc (suc (suc i))))))))))) step h = absurd (cc)

abbrev rename_phase : ℕ → ℕ
rename_phase j = cond (nat_lt j 5) 1 (cond (nat_lt j 6) 2 (cond (nat_lt j 7) 3 (cond (nat_lt j 9) 4 (cond (nat_lt j 10) 5 (6)))))

rename_phase_at : (t : Thunk) (j : ℕ) (step : Step) → IsStep (rename_steps t) j step → phase step ≡ rename_phase j
rename_phase_at t zero step h = ap phase (sym (some_inj h))
rename_phase_at t (suc zero) step h = ap phase (sym (some_inj h))
rename_phase_at t (suc (suc zero)) step h = ap phase (sym (some_inj h))
rename_phase_at t (suc (suc (suc zero))) step h = ap phase (sym (some_inj h))
rename_phase_at t (suc (suc (suc (suc zero)))) step h = ap phase (sym (some_inj h))
rename_phase_at t (suc (suc (suc (suc (suc zero))))) step h = ap phase (sym (some_inj h))
rename_phase_at t (suc (suc (suc (suc (suc (suc zero)))))) step h = ap phase (sym (some_inj h))
rename_phase_at t (suc (suc (suc (suc (suc (suc (suc zero))))))) step h = ap phase (sym (some_inj h))
rename_phase_at t (suc (suc (suc (suc (suc (suc (suc (suc zero)))))))) step h = ap phase (sym (some_inj h))
rename_phase_at t (suc (suc (suc (suc (suc (suc (suc (suc (suc zero))))))))) step h = ap phase (sym (some_inj h))
rename_phase_at t (suc (suc (suc (suc (suc (suc (suc (suc (suc (suc zero)))))))))) step h = ap phase (sym (some_inj h))
rename_phase_at t (suc (suc (suc (suc (suc (suc (suc (suc (suc (suc (suc j))))))))))) step h = absurd (cc)

rename_phase_rises : (i j : ℕ) → i < j → rename_phase i ≤ rename_phase j
rename_phase_rises i j lt = grind arith

abbrev rename_places : ℕ → ℕ
rename_places reg = cond (reg == 0) 0 (cond (reg == 1) 3 (cond (reg == 2) 5 (0)))

rename_sets : (t : Thunk) (i : ℕ) (step : Step) → IsStep (rename_steps t) i step → IsSetAt rename_places i step
rename_sets t zero step h = known_set rename_places 0 (Load (t.lock + 1) 0) step h
    (λ reg has. sets_one rename_places 0 0 reg refl (omega arith) has)
rename_sets t (suc zero) step h = known_set rename_places 1 (Want 0 (operand t 0)) step h
    (λ reg has. absurd (no_reg reg has))
rename_sets t (suc (suc zero)) step h = known_set rename_places 2 (Fresh 0) step h
    (λ reg has. absurd (no_reg reg has))
rename_sets t (suc (suc (suc zero))) step h = known_set rename_places 3 (Load (operand t 1) 1) step h
    (λ reg has. sets_one rename_places 3 1 reg refl (omega arith) has)
rename_sets t (suc (suc (suc (suc zero)))) step h = known_set rename_places 4 (Fresh 1) step h
    (λ reg has. absurd (no_reg reg has))
rename_sets t (suc (suc (suc (suc (suc zero))))) step h = known_set rename_places 5 (Make (moved_node (operand t 4) (operand t 5) (operand t 3)) 2) step h
    (λ reg has. sets_one rename_places 5 2 reg refl (omega arith) has)
rename_sets t (suc (suc (suc (suc (suc (suc zero)))))) step h = known_set rename_places 6 (Stamp) step h
    (λ reg has. absurd (no_reg reg has))
rename_sets t (suc (suc (suc (suc (suc (suc (suc zero))))))) step h = known_set rename_places 7 (Store 1 (Made 2)) step h
    (λ reg has. absurd (no_reg reg has))
rename_sets t (suc (suc (suc (suc (suc (suc (suc (suc zero)))))))) step h = known_set rename_places 8 (Store 0 (Const 0)) step h
    (λ reg has. absurd (no_reg reg has))
rename_sets t (suc (suc (suc (suc (suc (suc (suc (suc (suc zero))))))))) step h = known_set rename_places 9 (Retire (operand t 2)) step h
    (λ reg has. absurd (no_reg reg has))
rename_sets t (suc (suc (suc (suc (suc (suc (suc (suc (suc (suc zero)))))))))) step h = known_set rename_places 10 (Answer (7 * 2 ^ 32)) step h
    (λ reg has. absurd (no_reg reg has))
rename_sets t (suc (suc (suc (suc (suc (suc (suc (suc (suc (suc (suc i))))))))))) step h = absurd (cc)

abbrev rename_stored : Thunk → ℕ → ℕ
rename_stored t i = cond (i == 7) (operand t 1) (cond (i == 8) (t.lock + 1) (0))

rename_store_at : (t : Thunk) (i reg : ℕ) (v : Value) → IsStep (rename_steps t) i (Store reg v)
    → (store_place (rename_steps t) i reg ≡ rename_stored t i) × (7 ≤ i) × (i ≤ 8)
rename_store_at t zero reg v h = absurd (let is = some_inj h in cc)
rename_store_at t (suc zero) reg v h = absurd (let is = some_inj h in cc)
rename_store_at t (suc (suc zero)) reg v h = absurd (let is = some_inj h in cc)
rename_store_at t (suc (suc (suc zero))) reg v h = absurd (let is = some_inj h in cc)
rename_store_at t (suc (suc (suc (suc zero)))) reg v h = absurd (let is = some_inj h in cc)
rename_store_at t (suc (suc (suc (suc (suc zero))))) reg v h = absurd (let is = some_inj h in cc)
rename_store_at t (suc (suc (suc (suc (suc (suc zero)))))) reg v h = absurd (let is = some_inj h in cc)
rename_store_at t (suc (suc (suc (suc (suc (suc (suc zero))))))) reg v h = (ap (store_place (rename_steps t) 7) (sym (stored_reg (some_inj h))), omega arith, omega arith)
rename_store_at t (suc (suc (suc (suc (suc (suc (suc (suc zero)))))))) reg v h = (ap (store_place (rename_steps t) 8) (sym (stored_reg (some_inj h))), omega arith, omega arith)
rename_store_at t (suc (suc (suc (suc (suc (suc (suc (suc (suc zero))))))))) reg v h = absurd (let is = some_inj h in cc)
rename_store_at t (suc (suc (suc (suc (suc (suc (suc (suc (suc (suc zero)))))))))) reg v h = absurd (let is = some_inj h in cc)
rename_store_at t (suc (suc (suc (suc (suc (suc (suc (suc (suc (suc (suc i))))))))))) reg v h = absurd (cc)

-- what a Store stores to was tested before
fresh_in : (f : Form) (t : Thunk) (i reg : ℕ) (v : Value) → IsStep (steps_of f t) i (Store reg v)
    → FreshBefore (steps_of f t) i reg
fresh_in f t i reg v store =
    let step = step_in f t i (Store reg v) store in
    let h = step.0 in
    let half = half_in f t h step.1 in
    let fresh = half.steps step.2 in
    let order = half.order in
    ⊎_elim
    (λ change. record {
      by = suc h.load;
      earlier = (let at = change.0 in let late = fresh.5 in omega arith);
      tests = fresh.1
          ∙ ap (λ r. Some (Fresh r)) (sym change.1);
    })
    (λ edition. record {
      by = h.wanted;
      earlier = (let at = edition.0 in let changes = step.2 in omega (arith, order));
      tests = fresh.4
          ∙ ap (λ r. Some (Fresh r)) (sym edition.1);
    })
    step.3

-- no two steps set one register
set_twice : (places : ℕ → ℕ) (i j reg : ℕ) (earlier later : Step) → i < j → IsSetAt places i earlier
    → IsSetAt places j later → Contains (set_registers earlier) reg → Contains (set_registers later) reg → ⊥
set_twice places i j reg earlier later lt first second has has' =
    let at = (first reg has).0 in let at' = (second reg has').0 in omega arith

-- places that differ, by the number of the Store
two_apart : (lo i j : ℕ) (places : ℕ → ℕ) → lo ≤ i → i < j → j ≤ suc lo → places lo ≢ places (suc lo)
    → places i ≢ places j
two_apart lo i j places low lt high apart e =
    let first : i ≡ lo = omega arith in
    let second : j ≡ suc lo = omega arith in
    apart (ap places (sym first) ∙ e ∙ ap places second)

four_apart : (i j : ℕ) (places : ℕ → ℕ) → 13 ≤ i → i < j → j ≤ 16 → places 13 ≢ places 14 → places 13 ≢ places 15
    → places 13 ≢ places 16 → places 14 ≢ places 15 → places 14 ≢ places 16 → places 15 ≢ places 16
    → places i ≢ places j
four_apart i j places low lt high a b c d e f same = ⊎_elim
    (λ one. ⊎_elim (λ two. a (ap places (sym one) ∙ same ∙ ap places two))
    (⊎_elim (λ two. b (ap places (sym one) ∙ same ∙ ap places two))
    (λ two. c (ap places (sym one) ∙ same ∙ ap places two))) later)
    (⊎_elim (λ one. ⊎_elim (λ two. omega arith) (⊎_elim (λ two. d (ap places (sym one) ∙ same ∙ ap places two))
    (λ two. e (ap places (sym one) ∙ same ∙ ap places two))) later)
    (λ one. ⊎_elim (λ two. omega arith) (⊎_elim (λ two. omega arith)
    (λ two. f (ap places (sym one) ∙ same ∙ ap places two))) later)) first
  where
    first : (i ≡ 13) ⊎ (i ≡ 14) ⊎ (i ≡ 15)
    first = by i low (omega arith)
      where
        by : (i : ℕ) → 13 ≤ i → i ≤ 15 → (i ≡ 13) ⊎ (i ≡ 14) ⊎ (i ≡ 15)
        by i low high = search arith

    later : (j ≡ 14) ⊎ (j ≡ 15) ⊎ (j ≡ 16)
    later = by j (omega arith) high
      where
        by : (j : ℕ) → 14 ≤ j → j ≤ 16 → (j ≡ 14) ⊎ (j ≡ 15) ⊎ (j ≡ 16)
        by j low high = search arith

no_store_read : (t : Thunk) (i reg : ℕ) (v : Value) → IsStep (read_steps t) i (Store reg v) → ⊥
no_store_read t zero reg v h = absurd (let is = some_inj h in cc)
no_store_read t (suc zero) reg v h = absurd (let is = some_inj h in cc)
no_store_read t (suc (suc zero)) reg v h = absurd (let is = some_inj h in cc)
no_store_read t (suc (suc (suc zero))) reg v h = absurd (let is = some_inj h in cc)
no_store_read t (suc (suc (suc (suc i)))) reg v h = absurd (cc)

no_store_look_two : (t : Thunk) (i reg : ℕ) (v : Value) → IsStep (look_two_steps t) i (Store reg v) → ⊥
no_store_look_two t zero reg v h = absurd (let is = some_inj h in cc)
no_store_look_two t (suc zero) reg v h = absurd (let is = some_inj h in cc)
no_store_look_two t (suc (suc zero)) reg v h = absurd (let is = some_inj h in cc)
no_store_look_two t (suc (suc (suc zero))) reg v h = absurd (let is = some_inj h in cc)
no_store_look_two t (suc (suc (suc (suc zero)))) reg v h = absurd (let is = some_inj h in cc)
no_store_look_two t (suc (suc (suc (suc (suc zero))))) reg v h = absurd (let is = some_inj h in cc)
no_store_look_two t (suc (suc (suc (suc (suc (suc zero)))))) reg v h = absurd (let is = some_inj h in cc)
no_store_look_two t (suc (suc (suc (suc (suc (suc (suc i))))))) reg v h = absurd (cc)

pub read_shaped : (t : Thunk) → IsShaped (read_steps t)
read_shaped t = record {
  short = omega arith;
  phases = λ i j earlier later lt a b. let rises = read_phase_rises i j lt in
      let first = read_phase_at t i earlier a in let second = read_phase_at t j later b in omega arith;
  makes = omega arith;
  stamps = refl;
  answers = refl;
  used = read_used t;
  within = λ i step h. all_low (set_registers step) (λ reg has. (read_sets t i step h reg has).1);
  set_once = λ i j reg earlier later lt a b. set_twice read_places i j reg earlier later lt (read_sets t i earlier a)
      (read_sets t j later b);
  fresh = fresh_in Reads t;
  stored_once = λ i j a b v x lt h k e. no_store_read t i a v h;
}

pub insert_shaped : (t : Thunk) → IsShaped (insert_steps t)
insert_shaped t = record {
  short = omega arith;
  phases = λ i j earlier later lt a b. let rises = insert_phase_rises i j lt in
      let first = insert_phase_at t i earlier a in let second = insert_phase_at t j later b in omega arith;
  makes = omega arith;
  stamps = refl;
  answers = refl;
  used = insert_used t;
  within = λ i step h. all_low (set_registers step) (λ reg has. (insert_sets t i step h reg has).1);
  set_once = λ i j reg earlier later lt a b. set_twice insert_places i j reg earlier later lt (insert_sets t i earlier a)
      (insert_sets t j later b);
  fresh = fresh_in Inserts t;
  stored_once = λ i j a b v x lt h k e. let first = insert_store_at t i a v h in let second = insert_store_at t j b x k in
      two_apart 7 i j (insert_stored t) first.1 lt second.2 (λ e. omega arith) (sym first.0 ∙ e ∙ second.0);
}

pub remove_shaped : (t : Thunk) → operand t 1 ≢ t.lock + 1 → IsShaped (remove_steps t)
remove_shaped t apart = record {
  short = omega arith;
  phases = λ i j earlier later lt a b. let rises = remove_phase_rises i j lt in
      let first = remove_phase_at t i earlier a in let second = remove_phase_at t j later b in omega arith;
  makes = omega arith;
  stamps = refl;
  answers = refl;
  used = remove_used t;
  within = λ i step h. all_low (set_registers step) (λ reg has. (remove_sets t i step h reg has).1);
  set_once = λ i j reg earlier later lt a b. set_twice remove_places i j reg earlier later lt (remove_sets t i earlier a)
      (remove_sets t j later b);
  fresh = fresh_in Removes t;
  stored_once = λ i j a b v x lt h k e. let first = remove_store_at t i a v h in let second = remove_store_at t j b x k in
      two_apart 6 i j (remove_stored t) first.1 lt second.2 apart (sym first.0 ∙ e ∙ second.0);
}

pub set_shaped : (t : Thunk) → operand t 1 ≢ t.lock + 1 → IsShaped (set_steps t)
set_shaped t apart = record {
  short = omega arith;
  phases = λ i j earlier later lt a b. let rises = set_phase_rises i j lt in
      let first = set_phase_at t i earlier a in let second = set_phase_at t j later b in omega arith;
  makes = omega arith;
  stamps = refl;
  answers = refl;
  used = set_used t;
  within = λ i step h. all_low (set_registers step) (λ reg has. (set_sets t i step h reg has).1);
  set_once = λ i j reg earlier later lt a b. set_twice set_places i j reg earlier later lt (set_sets t i earlier a)
      (set_sets t j later b);
  fresh = fresh_in Sets t;
  stored_once = λ i j a b v x lt h k e. let first = set_store_at t i a v h in let second = set_store_at t j b x k in
      two_apart 6 i j (set_stored t) first.1 lt second.2 apart (sym first.0 ∙ e ∙ second.0);
}

pub look_two_shaped : (t : Thunk) → IsShaped (look_two_steps t)
look_two_shaped t = record {
  short = omega arith;
  phases = λ i j earlier later lt a b. let rises = look_two_phase_rises i j lt in
      let first = look_two_phase_at t i earlier a in let second = look_two_phase_at t j later b in omega arith;
  makes = omega arith;
  stamps = refl;
  answers = refl;
  used = look_two_used t;
  within = λ i step h. all_low (set_registers step) (λ reg has. (look_two_sets t i step h reg has).1);
  set_once = λ i j reg earlier later lt a b. set_twice look_two_places i j reg earlier later lt (look_two_sets t i earlier a)
      (look_two_sets t j later b);
  fresh = fresh_in ReadsTwo t;
  stored_once = λ i j a b v x lt h k e. no_store_look_two t i a v h;
}

pub move_shaped : (t : Thunk) → low_half t 4 ≢ target_lock t + 2 → low_half t 4 ≢ t.lock + 1 → low_half t 4 ≢ higher_lock t + 1 → target_lock t + 2 ≢ t.lock + 1 → target_lock t + 2 ≢ higher_lock t + 1 → t.lock + 1 ≢ higher_lock t + 1 → IsShaped (move_steps t)
move_shaped t p q c d g f = record {
  short = omega arith;
  phases = λ i j earlier later lt a b. let rises = move_phase_rises i j lt in
      let first = move_phase_at t i earlier a in let second = move_phase_at t j later b in omega arith;
  makes = omega arith;
  stamps = refl;
  answers = refl;
  used = move_used t;
  within = λ i step h. all_low (set_registers step) (λ reg has. (move_sets t i step h reg has).1);
  set_once = λ i j reg earlier later lt a b. set_twice move_places i j reg earlier later lt (move_sets t i earlier a)
      (move_sets t j later b);
  fresh = fresh_in Moves t;
  stored_once = λ i j a b v x lt h k e. let first = move_store_at t i a v h in let second = move_store_at t j b x k in
      four_apart i j (move_stored t) first.1 lt second.2 p q c d g f (sym first.0 ∙ e ∙ second.0);
}

pub rename_shaped : (t : Thunk) → operand t 1 ≢ t.lock + 1 → IsShaped (rename_steps t)
rename_shaped t apart = record {
  short = omega arith;
  phases = λ i j earlier later lt a b. let rises = rename_phase_rises i j lt in
      let first = rename_phase_at t i earlier a in let second = rename_phase_at t j later b in omega arith;
  makes = omega arith;
  stamps = refl;
  answers = refl;
  used = rename_used t;
  within = λ i step h. all_low (set_registers step) (λ reg has. (rename_sets t i step h reg has).1);
  set_once = λ i j reg earlier later lt a b. set_twice rename_places i j reg earlier later lt (rename_sets t i earlier a)
      (rename_sets t j later b);
  fresh = fresh_in Renames t;
  stored_once = λ i j a b v x lt h k e. let first = rename_store_at t i a v h in let second = rename_store_at t j b x k in
      two_apart 7 i j (rename_stored t) first.1 lt second.2 apart (sym first.0 ∙ e ∙ second.0);
}

-- a body has few steps
pub few_steps : (f : Form) (t : Thunk) → length (steps_of f t) ≤ 23
few_steps Reads t = omega arith
few_steps Inserts t = omega arith
few_steps Removes t = omega arith
few_steps Sets t = omega arith
few_steps ReadsTwo t = omega arith
few_steps Moves t = omega arith
few_steps Renames t = omega arith
few_steps Empty t = omega arith
