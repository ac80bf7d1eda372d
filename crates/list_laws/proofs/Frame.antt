-- What the list keeps, over a change of a scene that leaves the linked nodes and what was linked once.
use Rattle.std.specs.Prelude.{◌⊎◌, ◌%◌, Bool, true, Some, slice_get}
use Rattle.std.proofs.Common.{◌≡◌, ◌≢◌, ℕ, suc, ◌+◌, ◌*◌, ◌<◌, ◌≤◌, refl, sym, ◌∙◌, subst, inl, inr, ⊎_elim, arith}
use Rattle.structure_laws.specs.table_words.specs.small_lemmas.proofs.Numbers.{suc_equal}
use Rattle.structure_laws.specs.map_history.specs.declared.op.Op.{Op}
use Rattle.structure_laws.specs.map_history.specs.Keys.{key_of}
use Rattle.structure_laws.specs.table_words.specs.declared.layout.Layout.{Layout}
use Rattle.structure_laws.specs.Scene.{Readings, Section, Free, Live, Retired, Scene}
use Rattle.structure_laws.specs.Cells.{IsSafe, IsOutside}
use Rattle.structure_laws.specs.Sound.{IsRead, Sound}
use Rattle.structure_laws.proofs.Changes.{equal_of}
use Rattle.list_bodies.specs.List.{slot_in, node_in, Replace, form_of}
use Rattle.list_laws.specs.Line.{Nodes, rank, Line, LeadsOn, Linked, Next}
use Rattle.list_laws.specs.Walk.{Walk, node_of, is_past}
use Rattle.list_laws.specs.Nodes.{nodes, walk_of, IsAsRead, IsWalk, HasNew, HasMarked, HasTaken, IsNew, IsTaken}
use Rattle.list_laws.specs.Nodes.{IsBetween, NewNode, OldNode, IsTrail, ListKept, list}
use Rattle.list_laws.proofs.Line.{same_rank}
use Rattle.list_laws.proofs.Open.{has_behind}

pub live_used : (s : Scene) (t : ℕ) → s.status t ≡ Live → s.status t ≢ Free
live_used s t live free = cc

retired_used : (s : Scene) (t y : ℕ) → s.status t ≡ Retired y → s.status t ≢ Free
retired_used s t y retired free = cc

-- a slot that is safe isn't free
pub safe_used : (s : Scene) (t : ℕ) → IsSafe s t → s.status t ≢ Free
safe_used s t safe = ⊎_elim (live_used s t) (λ retired. retired_used s t retired.0 retired.1) safe

-- a node keeps its key and its value
pub record StaysNode (n n' : Nodes) (t : ℕ) : Type 0 where
  pub key : n'.key t ≡ n.key t
  pub value : n'.value t ≡ n.value t

-- and all its values stay
pub record IsSameNode (n n' : Nodes) (t : ℕ) : Type 0 where
  pub key : n'.key t ≡ n.key t
  pub next : n'.next t ≡ n.next t
  pub value : n'.value t ≡ n.value t
  pub mark : n'.mark t ≡ n.mark t

pub same_stays : (n n' : Nodes) (t : ℕ) → IsSameNode n n' t → StaysNode n n' t
same_stays n n' t same = record { key = same.key; value = same.value }

pub no_change : (n : Nodes) (t : ℕ) → IsSameNode n n t
no_change n t = record { key = refl; next = refl; value = refl; mark = refl }

-- a line goes by its linked nodes
module _ (n n' : Nodes) (linked : ℕ → Bool)
    (same : (t : ℕ) → linked t ≡ true → (n'.key t ≡ n.key t) × (n'.next t ≡ n.next t) × (n'.mark t ≡ n.mark t)) where
  ranks : (t : ℕ) → linked t ≡ true → rank n' t ≡ rank n t
  ranks t on = same_rank n n' t (same t on).0 (same t on).2

  less_on : (s t : ℕ) → linked s ≡ true → linked t ≡ true → rank n s < rank n t → rank n' s < rank n' t
  less_on s t on on' less = subst (λ k. k < rank n' t) (sym (ranks s on)) (subst (λ k. rank n s < k) (sym (ranks t on')) less)

  less_back : (s t : ℕ) → linked s ≡ true → linked t ≡ true → rank n' s < rank n' t → rank n s < rank n t
  less_back s t on on' less = subst (λ k. k < rank n t) (ranks s on) (subst (λ k. rank n' s < k) (ranks t on') less)

  le_on : (s t : ℕ) → linked s ≡ true → linked t ≡ true → rank n s ≤ rank n t → rank n' s ≤ rank n' t
  le_on s t on on' le = subst (λ k. k ≤ rank n' t) (sym (ranks s on)) (subst (λ k. rank n s ≤ k) (sym (ranks t on')) le)

  pub line_same : Line n linked → Line n' linked
  line_same line = record {
    head = line.head;
    tail = line.tail;
    tail_key = (same 1 line.tail).0 ∙ line.tail_key;
    tail_end = (same 1 line.tail).1 ∙ line.tail_end;
    next_some = λ s on not_tail. subst (λ k. 0 < k) (sym (same s on).1) (line.next_some s on not_tail);
    next_on = λ s t on not_tail h. let was = line.next_on s t on not_tail (sym (same s on).1 ∙ h) in
        (was.0, less_on s t on was.0 was.1);
    next_top = λ s t u on not_tail h on' less. let link = sym (same s on).1 ∙ h in
        le_on t u (line.next_on s t on not_tail link).0 on' (line.next_top s t u on not_tail link on'
        (less_back s u on on' less));
    rank_once = λ s t on on' e. line.rank_once s t on on' (sym (ranks s on) ∙ (e ∙ ranks t on'));
    last = λ s on. le_on s 1 on line.tail (line.last s on);
  }

-- the links lead on, where those of nodes that were linked once and aren't linked stay
pub leads_same : (n n' : Nodes) (linked once linked' once' : ℕ → Bool)
    → ((t : ℕ) → once t ≡ true → once' t ≡ true)
    → ((t : ℕ) → once t ≡ true → n'.next t ≡ n.next t) → ((t : ℕ) → linked t ≡ true → linked' t ≡ true)
    → (s : ℕ) → LeadsOn n linked once s → LeadsOn n' linked' once' s
leads_same n n' linked once linked' once' were same on s (Linked _ is) = Linked s (on s is)
leads_same n n' linked once linked' once' were same on s (Next _ t was link leads) =
    Next s t (were s was) (same s was ∙ link) (leads_same n n' linked once linked' once' were same on t leads)

-- a cell of a node that was read is none of a free slot, unless it is a lock
pub outside_used : (s : Scene) (t k : ℕ) → 0 < k → k < 5 → IsOutside list s (0 + 5 * t + k) → s.status t ≢ Free
outside_used s t k low high outside = ⊎_elim (λ fixed. absurd (omega (arith, fixed)))
    (⊎_elim (λ lock. absurd (let zero = equal_of ((0 + 5 * t + k) % 5) 0 lock in omega (arith, zero, low, high)))
    (λ slot. let in_slot = slot.1 in
    subst (λ u. s.status u ≢ Free) (same slot.0 in_slot.0 in_slot.1 in_slot.2) (safe_used s slot.0 slot.2))) outside
  where
    same : (u i : ℕ) → i < 5 → 0 + 5 * t + k ≡ 0 + 5 * u + i → u ≡ t
    same u i less e = omega (arith, less, high, e)

-- what was read of nodes stands, where the nodes in use keep keys and values
pub read_stays : (s : Scene) (n' : Nodes) (readings : Readings) → IsRead list s readings
    → ((t : ℕ) → s.status t ≢ Free → StaysNode (nodes s.cells) n' t)
    → IsAsRead (nodes s.cells) readings → IsAsRead n' readings
read_stays s n' readings read stays old = record {
  key = λ i t w h. old.key i t w h ∙ sym (cell i t 1 w (omega arith) (omega arith) h).key;
  value = λ i t w h. old.value i t w h ∙ sym (cell i t 3 w (omega arith) (omega arith) h).value;
  next_some = old.next_some;
  marks = old.marks;
}
  where
    cell : (i t k w : ℕ) → 0 < k → k < 5 → slice_get readings i ≡ Some (0 + 5 * t + k, w)
        → StaysNode (nodes s.cells) n' t
    cell i t k w low high h = stays t (outside_used s t k low high (read.outside i (0 + 5 * t + k) w h))

-- and a walk stays what it is, where its nodes stay nodes that were linked once and keep their keys
pub walk_stays : (n n' : Nodes) (once once' : ℕ → Bool) (key : ℕ) (w : Walk)
    → (once w.from ≡ true → (once' w.from ≡ true) × (n'.key w.from ≡ n.key w.from))
    → (is_past w.stage ≡ true → once (node_of w) ≡ true → (once' (node_of w) ≡ true)
    × (n'.key (node_of w) ≡ n.key (node_of w)))
    → IsWalk n once key w → IsWalk n' once' key w
walk_stays n n' once once' key w from node is = let same = from is.from_once in record {
  from_once = same.0;
  from_tail = is.from_tail;
  from_key = λ some. subst (λ k. k < key) (sym same.1) (is.from_key some);
  node_once = λ past. (node past (is.node_once past)).0;
  node_head = is.node_head;
  node_other = is.node_other;
  node_key = λ past some. subst (λ k. k ≤ n'.key (node_of w)) (sym same.1)
      (subst (λ k. n.key w.from ≤ k) (sym (node past (is.node_once past)).1) (is.node_key past some));
}

module _ (layout : Layout) (s : Scene) (kept : ListKept layout s) where
  -- a slot that a section holds between is live
  pub between_live : (d : ℕ) (x : Section) (t : ℕ) → s.section d ≡ Some x → IsBetween x t → s.status t ≡ Live
  between_live d x t here (NewNode has link) = let new = kept.made d x here has in
      subst (λ u. s.status u ≡ Live) (suc_equal new.slot t (sym new.link ∙ link)) new.live
  between_live d x t here (OldNode has is) = subst (λ u. s.status u ≡ Live) is (kept.taken d x here has).live

-- a scene and one after it, with the same linked nodes
module _ (layout : Layout) (s s' : Scene) (sound : Sound list layout s) (kept : ListKept layout s) where
  abbrev now : Nodes
  now = nodes s.cells

  abbrev then_nodes : Nodes
  then_nodes = nodes s'.cells

  -- what a section has to show that wasn't there, or was and has passed a step
  pub record IsKeptSection (x : Section) : Type 0 where
    pub new : HasNew x → IsNew s' kept.once x
    pub taken : HasTaken x → IsTaken s' kept.linked x
    pub behind : form_of x.thunk ≡ Replace → x.at ≡ 14
        → then_nodes.key (node_in x.thunk) < then_nodes.key (slot_in (x.reg 2))
    pub read : IsAsRead then_nodes x.readings
    pub walk : IsWalk then_nodes kept.once (key_of x.op) (walk_of layout x.op x.readings)

  -- and the readings of a runner that has entered, or has read once more
  pub record IsKeptReader (readings : Readings) : Type 0 where
    pub read : IsAsRead then_nodes readings
    pub walks : (op : Op) → key_of op < 4294967294
        → IsWalk then_nodes kept.once (key_of op) (walk_of layout op readings)

  -- nodes in use stay as they are; statuses, sections and readers may change
  pub record Frame : Type 0 where
    pub same : (t : ℕ) → s.status t ≢ Free → IsSameNode now then_nodes t
    -- a slot that comes into use
    pub fresh : (t : ℕ) → s'.status t ≢ Free → (s.status t ≢ Free)
        ⊎ ((t ≢ 1 → 0 < then_nodes.next t) × (then_nodes.mark t ≤ 1))
    pub linked_live : (t : ℕ) → kept.linked t ≡ true → s'.status t ≡ Live
    pub retired_once : (t y : ℕ) → s'.status t ≡ Retired y → kept.once t ≡ true
    pub once_used : (t : ℕ) → kept.once t ≡ true → s'.status t ≢ Free
    pub safe : (t : ℕ) → kept.once t ≡ true → IsSafe s' t → IsSafe s t
    pub live : (t : ℕ) → s'.status t ≡ Live → (kept.linked t ≡ true)
        ⊎ ((d : ℕ) × (x : Section) × (s'.section d ≡ Some x) × IsBetween x t)
    pub limbo : (t y u : ℕ) → s'.status t ≡ Retired y → s'.epoch ≤ y + 1 → then_nodes.next t ≡ suc u
        → (s'.status u ≡ Live) ⊎ ((z : ℕ) × (s'.status u ≡ Retired z) × (y ≤ z))
    -- a section that has marked the old node, and not taken it out, stays
    pub marked : (d : ℕ) (x : Section) → s.section d ≡ Some x → HasMarked x → (e : ℕ) × (y : Section)
        × (s'.section e ≡ Some y) × HasMarked y × (node_in y.thunk ≡ node_in x.thunk)
    -- a section was there, and its slots are live still; or shows what it has to
    pub section : (d : ℕ) (x : Section) → s'.section d ≡ Some x
        → ((s.section d ≡ Some x) × ((t : ℕ) → IsBetween x t → s'.status t ≡ Live)) ⊎ IsKeptSection x
    pub reader : (r : ℕ) (readings : Readings) → s'.reader r ≡ Some readings → (s.reader r ≡ Some readings)
        ⊎ IsKeptReader readings

  module _ (same : (t : ℕ) → s.status t ≢ Free → IsSameNode now then_nodes t) where
    once_same : (t : ℕ) → kept.once t ≡ true → IsSameNode now then_nodes t
    once_same t once = same t (kept.once_used t once)

    on_same : (t : ℕ) → kept.linked t ≡ true → IsSameNode now then_nodes t
    on_same t on = same t (live_used s t (kept.linked_live t on))

    -- readings and walks stay what they were, and the order of the old node and the one behind it
    pub same_read : (readings : Readings) → IsRead list s readings → IsAsRead now readings
        → IsAsRead then_nodes readings
    same_read readings read old =
        read_stays s then_nodes readings read (λ t used. same_stays now then_nodes t (same t used)) old

    pub same_walk : (key : ℕ) (w : Walk) → IsWalk now kept.once key w → IsWalk then_nodes kept.once key w
    same_walk key w is = walk_stays now then_nodes kept.once kept.once key w
        (λ once. (once, (once_same w.from once).key)) (λ past once. (once, (once_same (node_of w) once).key)) is

    pub same_behind : (d : ℕ) (x : Section) → s.section d ≡ Some x → form_of x.thunk ≡ Replace → x.at ≡ 14
        → then_nodes.key (node_in x.thunk) < then_nodes.key (slot_in (x.reg 2))
    same_behind d x there form at =
        let is = has_behind layout s sound kept d x there form (omega (arith, at)) (omega (arith, at)) in
        let less = kept.behind d x there form at in
        let a = (on_same (node_in x.thunk) is.old).key in
        let b = (on_same (slot_in (x.reg 2)) is.next).key in
        omega (arith, less, a, b)

  module _ (frame : Frame) where
    made : (d : ℕ) (x : Section) → s'.section d ≡ Some x → HasNew x → IsNew s' kept.once x
    made d x h has = ⊎_elim
        (λ old. let was = kept.made d x old.0 has in
        let node = frame.same was.slot (live_used s was.slot was.live) in
        record {
          slot = was.slot;
          link = was.link;
          live = old.1 was.slot (NewNode has was.link);
          new = was.new;
          key = node.key ∙ was.key;
          value = node.value ∙ was.value;
          next = node.next ∙ was.next;
          mark = node.mark ∙ was.mark;
        })
        (λ new. new.new has) (frame.section d x h)

    taken : (d : ℕ) (x : Section) → s'.section d ≡ Some x → HasTaken x → IsTaken s' kept.linked x
    taken d x h has = ⊎_elim
        (λ old. record {
          out = (kept.taken d x old.0 has).out;
          live = old.1 (node_in x.thunk) (OldNode has refl);
        })
        (λ new. new.taken has) (frame.section d x h)

    trail : (t u : ℕ) → kept.once t ≡ true → IsSafe s' t → t ≢ 1 → then_nodes.next t ≡ suc u
        → IsTrail then_nodes kept.once t u
    trail t u once safe inner link =
        let node = once_same frame.same t once in
        let old = kept.trail t u once (frame.safe t once safe) inner (sym node.next ∙ link) in
        let below = once_same frame.same u old.once_linked in
        record {
          once_linked = old.once_linked;
          no_head = old.no_head;
          order = λ some. ⊎_elim
              (λ less. inl (let a = node.key in let b = below.key in omega (arith, less, a, b)))
              (λ both. inr (node.key ∙ (both.0 ∙ sym below.key), node.mark ∙ both.1))
              (old.order some);
        }

    -- the list keeps what it keeps
    pub frame_kept : ListKept layout s'
    frame_kept = record {
      linked = kept.linked;
      once = kept.once;
      line = line_same now then_nodes kept.linked (λ t on. let node = on_same frame.same t on in
          (node.key, node.next, node.mark)) kept.line;
      linked_live = frame.linked_live;
      linked_once = kept.linked_once;
      retired_once = frame.retired_once;
      once_used = frame.once_used;
      next_some = λ t used inner. ⊎_elim
          (λ was. subst (λ k. 0 < k) (sym (frame.same t was).next) (kept.next_some t was inner))
          (λ new. new.0 inner) (frame.fresh t used);
      mark_small = λ t used. ⊎_elim
          (λ was. subst (λ k. k ≤ 1) (sym (frame.same t was).mark) (kept.mark_small t was))
          (λ new. new.1) (frame.fresh t used);
      unmarked = λ t once safe mark. kept.unmarked t once (frame.safe t once safe)
          (sym (once_same frame.same t once).mark ∙ mark);
      trail = trail;
      leads = λ t once safe. leads_same now then_nodes kept.linked kept.once kept.linked kept.once (λ t once. once)
          (λ t once. (once_same frame.same t once).next) (λ t on. on) t (kept.leads t once (frame.safe t once safe));
      marked = λ t on mark.
          let was = kept.marked t on (λ zero. mark ((on_same frame.same t on).mark ∙ zero)) in
          let is = frame.marked was.0 was.1 was.2 was.3 in
          (is.0, is.1, is.2, is.3, is.4 ∙ was.4);
      live = frame.live;
      limbo = frame.limbo;
      made = made;
      taken = taken;
      behind = λ d x h form at. ⊎_elim (λ old. same_behind frame.same d x old.0 form at)
          (λ new. new.behind form at) (frame.section d x h);
      readers = λ r readings h. ⊎_elim (λ old. same_read frame.same readings (sound.readers r readings old)
          (kept.readers r readings old)) (λ new. new.read) (frame.reader r readings h);
      published = λ d x h. ⊎_elim (λ old. same_read frame.same x.readings (sound.published d x old.0)
          (kept.published d x old.0)) (λ new. new.read) (frame.section d x h);
      walks = λ r readings op h low. ⊎_elim (λ old. same_walk frame.same (key_of op) (walk_of layout op readings)
          (kept.walks r readings op old low)) (λ new. new.walks op low) (frame.reader r readings h);
      sections = λ d x h. ⊎_elim (λ old. same_walk frame.same (key_of x.op) (walk_of layout x.op x.readings)
          (kept.sections d x old.0)) (λ new. new.walk) (frame.section d x h);
    }

  -- only readers, sections, the epoch, and cells of slots that aren't in use change
  pub record Passing : Type 0 where
    pub same : (t : ℕ) → s.status t ≢ Free → IsSameNode now then_nodes t
    pub status : (t : ℕ) → s'.status t ≡ s.status t
    pub epoch : s.epoch ≤ s'.epoch
    pub marked : (d : ℕ) (x : Section) → s.section d ≡ Some x → HasMarked x → (e : ℕ) × (y : Section)
        × (s'.section e ≡ Some y) × HasMarked y × (node_in y.thunk ≡ node_in x.thunk)
    -- what was between is so still
    pub between : (d : ℕ) (x : Section) (t : ℕ) → s.section d ≡ Some x → IsBetween x t → (e : ℕ) × (y : Section)
        × (s'.section e ≡ Some y) × IsBetween y t
    pub section : (d : ℕ) (x : Section) → s'.section d ≡ Some x → (s.section d ≡ Some x) ⊎ IsKeptSection x
    pub reader : (r : ℕ) (readings : Readings) → s'.reader r ≡ Some readings → (s.reader r ≡ Some readings)
        ⊎ IsKeptReader readings

  module _ (passing : Passing) where
    same_limbo : (t y u : ℕ) → s'.status t ≡ Retired y → s'.epoch ≤ y + 1 → then_nodes.next t ≡ suc u
        → (s'.status u ≡ Live) ⊎ ((z : ℕ) × (s'.status u ≡ Retired z) × (y ≤ z))
    same_limbo t y u retired recent link =
        let old = sym (passing.status t) ∙ retired in
        let node = passing.same t (retired_used s t y old) in
        let rises = passing.epoch in
        ⊎_elim (λ live. inl (passing.status u ∙ live)) (λ z. inr (z.0, passing.status u ∙ z.1, z.2))
        (kept.limbo t y u old (omega (arith, recent, rises)) (sym node.next ∙ link))

    passing_safe : (t : ℕ) → IsSafe s' t → IsSafe s t
    passing_safe t safe = let rises = passing.epoch in ⊎_elim (λ live. inl (sym (passing.status t) ∙ live))
        (λ z. inr (z.0, sym (passing.status t) ∙ z.1, (let recent = z.2 in omega (arith, recent, rises)))) safe

    passing_frame : Frame
    passing_frame = record {
      same = passing.same;
      fresh = λ t used. inl (λ free. used (passing.status t ∙ free));
      linked_live = λ t on. passing.status t ∙ kept.linked_live t on;
      retired_once = λ t y retired. kept.retired_once t y (sym (passing.status t) ∙ retired);
      once_used = λ t once free. kept.once_used t once (sym (passing.status t) ∙ free);
      safe = λ t once safe. passing_safe t safe;
      live = λ t live. ⊎_elim inl (λ old. inr (passing.between old.0 old.1 t old.2 old.3))
          (kept.live t (sym (passing.status t) ∙ live));
      limbo = same_limbo;
      marked = passing.marked;
      section = λ d x h. ⊎_elim (λ old. inl (
        old,
        λ t between. passing.status t ∙ between_live layout s kept d x t old between,
      )) inr (passing.section d x h);
      reader = passing.reader;
    }

    pub passing_kept : ListKept layout s'
    passing_kept = frame_kept passing_frame
