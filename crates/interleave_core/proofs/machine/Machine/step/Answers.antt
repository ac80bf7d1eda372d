use Rattle.std.proofs.Common.{◌≡◌, ◌<◌, ◌≤◌, ℕ, List, length, sym, refl, ap, subst, ◌∙◌, arith, Some, slice_get, slice_set}
use Rattle.std.proofs.lemmas.Option.{slice_get_past, slice_get_read}
use Rattle.machine_states.specs.map_history.specs.declared.op.Request.{Request}
use Rattle.machine_states.specs.table_words.specs.declared.sizes.Sizes.{Sizes}
use Rattle.machine_states.specs.table_words.specs.declared.spot.Spot.{Spot}
use Rattle.machine_states.specs.table_words.specs.declared.access.Access.{Access}
use Rattle.machine_states.specs.table_words.specs.Places.{Fits, address}
use Rattle.machine_states.specs.table_words.specs.Seen.{seen}
use Rattle.machine_states.specs.runner_steps.specs.Asks.{asks, sizes_for}
use Rattle.machine_states.specs.runner_parts.specs.State.{PartState}
use Rattle.machine_states.proofs.Steps.{asked_fits, not_none, lands, length_put, length_words}
use Rattle.machine_states.specs.World.{World, seat_of, settled_part, put_part}
use Rattle.enabled_kinds.specs.May.{AreEnabled}
use Rattle.interleave_core.specs.Enabled.{NamesEnabled}
use Rattle.interleave_core.proofs.Enabled.{named, names_none, names}
use Rattle.machine_states.proofs.Reached.{more_reached}
use Rattle.interleave_core.proofs.machine.Machine.step.Goals as goal

pub word_at-found-requires-clause-spot : goal.word_at-found-requires-clause-spot
word_at-found-requires-clause-spot g c =
    let s = c.self.inside in
    let m = g.S.Structure.meaning s.structure in
    let e = c.args.event in
    let p = c.index-part.result.now in
    let x : Spot × Access = (c.in-Some.spot, c.in-Some.access) in
    let asked : asks m s.layout s.requests.items e.runner e.kind p ≡ Some x =
    ap (λ (rs : List Request). asks m s.layout rs e.runner e.kind p) (sym c.deref-2.ensures.value) ∙ (sym c.asks.ensures ∙ c.in-Some.is) in
    let sizes_is : c.sizes_for-sizes.result ≡ sizes_for m s.layout s.requests.items =
    c.sizes_for-sizes.ensures ∙ ap (λ (rs : List Request). sizes_for m s.layout rs) c.deref.ensures.value in
    subst (λ (z : Sizes). Fits z x.0) (sym sizes_is) (asked_fits m s.layout s.requests.items s.words.items s.parts.items e p x asked)

pub returns-in_default-part_after-clause-refuses : goal.returns-in_default-part_after-clause-refuses
returns-in_default-part_after-clause-refuses g c =
    let s = c.self.inside in
    let m = g.S.Structure.meaning s.structure in
    let e = c.args.event in
    let p = c.index-part.result.now in
    let x : Spot × Access = (c.in-Some.spot, c.in-Some.access) in
    let asked : asks m s.layout s.requests.items e.runner e.kind p ≡ Some x =
    ap (λ (rs : List Request). asks m s.layout rs e.runner e.kind p) (sym c.deref-2.ensures.value) ∙ (sym c.asks.ensures ∙ c.in-Some.is) in
    let room : c.seat_of-seat.result < length s.parts.items = (let a = c.len.ensures in let b = s.parts.ok.0 in let d = c.if-seat-len.false in omega arith) in
    let here : slice_get s.parts.items (seat_of s.layout e.runner) ≡ Some p =
    ap (slice_get s.parts.items) (sym c.seat_of-seat.ensures) ∙ slice_get_read s.parts.items (length s.parts.items) c.seat_of-seat.result p refl room c.index-part.ensures in
    rw (← c.self.view_is) (λ none. absurd (not_none m s.layout s.requests.items s.words.items s.parts.items e p x here asked none))

pub returns-in_default-settled_part-clause-refuses : goal.returns-in_default-settled_part-clause-refuses
returns-in_default-settled_part-clause-refuses g c =
    let s = c.self.inside in
    let m = g.S.Structure.meaning s.structure in
    let e = c.args.event in
    let p = c.index-part.result.now in
    let x : Spot × Access = (c.in-Some.spot, c.in-Some.access) in
    let asked : asks m s.layout s.requests.items e.runner e.kind p ≡ Some x =
    ap (λ (rs : List Request). asks m s.layout rs e.runner e.kind p) (sym c.deref-2.ensures.value) ∙ (sym c.asks.ensures ∙ c.in-Some.is) in
    let room : c.seat_of-seat.result < length s.parts.items = (let a = c.len.ensures in let b = s.parts.ok.0 in let d = c.if-seat-len.false in omega arith) in
    let here : slice_get s.parts.items (seat_of s.layout e.runner) ≡ Some p =
    ap (slice_get s.parts.items) (sym c.seat_of-seat.ensures) ∙ slice_get_read s.parts.items (length s.parts.items) c.seat_of-seat.result p refl room c.index-part.ensures in
    rw (← c.self.view_is) (λ none. absurd (not_none m s.layout s.requests.items s.words.items s.parts.items e p x here asked none))

pub put_word-requires-clause-spot : goal.put_word-requires-clause-spot
put_word-requires-clause-spot g c =
    let s = c.self.inside in
    let m = g.S.Structure.meaning s.structure in
    let e = c.args.event in
    let p = c.index-part.result.now in
    let x : Spot × Access = (c.in-Some.spot, c.in-Some.access) in
    let asked : asks m s.layout s.requests.items e.runner e.kind p ≡ Some x =
    ap (λ (rs : List Request). asks m s.layout rs e.runner e.kind p) (sym c.deref-2.ensures.value) ∙ (sym c.asks.ensures ∙ c.in-Some.is) in
    let sizes_is : c.sizes_for-sizes.result ≡ sizes_for m s.layout s.requests.items =
    c.sizes_for-sizes.ensures ∙ ap (λ (rs : List Request). sizes_for m s.layout rs) c.deref.ensures.value in
    subst (λ (z : Sizes). Fits z x.0) (sym sizes_is) (asked_fits m s.layout s.requests.items s.words.items s.parts.items e p x asked)

pub returns-clause-event : goal.returns-clause-event
returns-clause-event g c =
    let s = c.self.inside in
    let m = g.S.Structure.meaning s.structure in
    let e = c.args.event in
    let p = c.index-part.result.now in
    let x : Spot × Access = (c.in-Some.spot, c.in-Some.access) in
    let asked : asks m s.layout s.requests.items e.runner e.kind p ≡ Some x =
    ap (λ (rs : List Request). asks m s.layout rs e.runner e.kind p) (sym c.deref-2.ensures.value) ∙ (sym c.asks.ensures ∙ c.in-Some.is) in
    let sizes_is : c.sizes_for-sizes.result ≡ sizes_for m s.layout s.requests.items =
    c.sizes_for-sizes.ensures ∙ ap (λ (rs : List Request). sizes_for m s.layout rs) c.deref.ensures.value in
    let room : c.seat_of-seat.result < length s.parts.items = (let a = c.len.ensures in let b = s.parts.ok.0 in let d = c.if-seat-len.false in omega arith) in
    let here : slice_get s.parts.items (seat_of s.layout e.runner) ≡ Some p =
    ap (slice_get s.parts.items) (sym c.seat_of-seat.ensures) ∙ slice_get_read s.parts.items (length s.parts.items) c.seat_of-seat.result p refl room c.index-part.ensures in
    let found_is : c.word_at-found.result ≡ seen (sizes_for m s.layout s.requests.items) s.words.items x.0 =
    c.word_at-found.ensures ∙ (λ i. seen (sizes_is i) (c.deref-3.ensures.value i) x.0) in
    let words_is : c.put_word.new.words.items ≡ slice_set s.words.items (address (sizes_for m s.layout s.requests.items) x.0) c.written.result =
    c.put_word.ensures ∙ ap (λ (z : Sizes). slice_set s.words.items (address z x.0) c.written.result) sizes_is in
    let last_is : c.in-Ok-settled_part.last ≡ settled_part e.kind c.in-Ok.next s.parts.items =
    c.in-Ok-settled_part.ensures ∙ ap (λ (ps : List PartState). settled_part e.kind c.in-Ok.next ps) c.deref-4.ensures.value in
    let parts_is : c.put_part.new.parts.items ≡ put_part s.parts.items e.kind (seat_of s.layout e.runner) c.in-Ok-settled_part.last =
    c.put_part.ensures ∙ ap (λ n. put_part s.parts.items e.kind n c.in-Ok-settled_part.last) c.seat_of-seat.ensures in
    rw (← c.self.view_is) (lands m s.layout s.requests.items s.words.items s.parts.items e p x here asked c.word_at-found.result c.written.result
    c.put_word.new.words.items c.in-Ok.next c.in-Ok-settled_part.last c.put_part.new.parts.items found_is c.written.ensures words_is c.in-Ok.ensures last_is parts_is)

pub returns-clause-refuses : goal.returns-clause-refuses
returns-clause-refuses g c =
    let s = c.self.inside in
    let m = g.S.Structure.meaning s.structure in
    let e = c.args.event in
    let p = c.index-part.result.now in
    let x : Spot × Access = (c.in-Some.spot, c.in-Some.access) in
    let asked : asks m s.layout s.requests.items e.runner e.kind p ≡ Some x =
    ap (λ (rs : List Request). asks m s.layout rs e.runner e.kind p) (sym c.deref-2.ensures.value) ∙ (sym c.asks.ensures ∙ c.in-Some.is) in
    let room : c.seat_of-seat.result < length s.parts.items = (let a = c.len.ensures in let b = s.parts.ok.0 in let d = c.if-seat-len.false in omega arith) in
    let here : slice_get s.parts.items (seat_of s.layout e.runner) ≡ Some p =
    ap (slice_get s.parts.items) (sym c.seat_of-seat.ensures) ∙ slice_get_read s.parts.items (length s.parts.items) c.seat_of-seat.result p refl room c.index-part.ensures in
    rw (← c.self.view_is) (λ none. absurd (not_none m s.layout s.requests.items s.words.items s.parts.items e p x here asked none))

pub invariant_of-self : goal.invariant_of-self
invariant_of-self g c =
    let s = c.self.inside in
    let as_many = ap length c.put_word.ensures ∙ length_words s.words.items _ c.written.result in
    let room = c.self.invariant.words in
    record {
      limits = c.self.invariant.limits;
      few = c.self.invariant.few;
      words = omega (arith, as_many, room);
      parts = ap length c.put_part.ensures ∙ (length_put s.parts.items c.args.event.kind c.seat_of-seat.result c.in-Ok-settled_part.last ∙ c.self.invariant.parts);
    }

pub returns-then-seat-len-clause-kinds : goal.returns-then-seat-len-clause-kinds
returns-then-seat-len-clause-kinds g c =
    let s = c.self.inside in
    let m = g.S.Structure.meaning s.structure in
    let w : World = record { words = s.words.items; parts = s.parts.items } in
    let past : length s.parts.items ≤ seat_of s.layout c.args.event.runner = (let a = c.len.ensures in let b = s.parts.ok.0 in let d = c.if-seat-len.true in let e = c.seat_of-seat.ensures in omega (arith, a, b, d, e)) in
    rw (← c.self.view_is) (λ enabled is. subst (λ (n : ℕ). NamesEnabled m s.layout s.requests.items w c.args.event.runner n) (named 0 enabled is)
    (names_none m s.layout s.requests.items w c.args.event.runner (slice_get_past s.parts.items (seat_of s.layout c.args.event.runner) past)))

pub returns-in_default-clause-kinds : goal.returns-in_default-clause-kinds
returns-in_default-clause-kinds g c =
    let s = c.self.inside in
    let m = g.S.Structure.meaning s.structure in
    let e = c.args.event in
    let p = c.index-part.result.now in
    let w : World = record { words = s.words.items; parts = s.parts.items } in
    let room : c.seat_of-seat.result < length s.parts.items = (let a = c.len.ensures in let b = s.parts.ok.0 in let d = c.if-seat-len.false in omega arith) in
    let here : slice_get s.parts.items (seat_of s.layout e.runner) ≡ Some p =
    ap (slice_get s.parts.items) (sym c.seat_of-seat.ensures) ∙ slice_get_read s.parts.items (length s.parts.items) c.seat_of-seat.result p refl room c.index-part.ensures in
    let on_part : AreEnabled m s.layout s.requests.items e.runner p c.enabled-kinds.result =
    subst (λ (rs : List Request). AreEnabled m s.layout rs e.runner p c.enabled-kinds.result) c.deref-in_default.ensures.value c.enabled-kinds.ensures in
    rw (← c.self.view_is) (λ enabled is. subst (λ (n : ℕ). NamesEnabled m s.layout s.requests.items w e.runner n) (named c.enabled-kinds.result enabled is)
    (names m s.layout s.requests.items w e.runner p here c.enabled-kinds.result on_part))

pub returns-clause-reached : goal.returns-clause-reached
returns-clause-reached g c = λ so_far. more_reached (g.S.Structure.meaning c.args.self.now.structure) c.args.self.now.layout c.args.self.now.requests c.args.self.now.world _ c.args.event so_far (returns-clause-event g c)
