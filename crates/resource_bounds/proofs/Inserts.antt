-- A request whose reply says that a pair was added is one that may add.
use Rattle.std.specs.Prelude.{cond, All, Bool, true, false, slice_get}
use Rattle.std.proofs.Common.{◌≡◌, ◌≢◌, ℕ, zero, suc, ◌+◌, ◌≤◌, List, [], ◌∷◌, length, refl, sym, ap, ◌∙◌, subst, arith, Option, Some, None}
use Rattle.std.proofs.lemmas.List.Sums.{sum_by-cons}
use Rattle.std.proofs.lemmas.Option.{slice_get_within, slice_get_read, get_or_from_slice_get}
use Rattle.machine_states.specs.map_history.specs.declared.op.Request.{Request}
use Rattle.machine_states.specs.map_history.specs.Keys.{GivesSmall, may_add}
use Rattle.machine_states.specs.map_history.specs.Replay.{Pairs, reply_of}
use Rattle.machine_states.specs.map_history.specs.Words.{word_of, IsReply, adds_by}
use Rattle.machine_states.specs.map_history.proofs.Words.{adds_some, adds_for}
use Rattle.history_orders.specs.Stamped.{Stamped, map_of, map_before, IsReplayed}
use Rattle.history_orders.proofs.Replies.{AreSmall, replies_small, turn_small}
use Rattle.machine_states.specs.table_words.specs.declared.layout.Layout.{Layout}
use Rattle.machine_states.specs.table_words.specs.declared.spot.Spot.{Spot}
use Rattle.machine_states.specs.table_words.specs.declared.spot.Spot.TheVariants as spots
use Rattle.machine_states.specs.table_words.specs.Limits.{IsWithinLimits}
use Rattle.machine_states.specs.structure_laws.specs.Meaning.{Meaning}
use Rattle.machine_states.specs.structure_laws.specs.Laws.{Laws}
use Rattle.machine_states.specs.structure_laws.specs.Sections.{IsAllowed}
use Rattle.machine_states.specs.World.{World}
use Rattle.machine_states.specs.Reached.{Reached}
use Rattle.machine_states.specs.Sight.{Sight, sight}
use Rattle.reached_histories.specs.machine_facts.specs.machine_invariant.specs.After.{AreAllowed}
use Rattle.reached_histories.specs.history_core.specs.State.{Requests, HistoryState, has_replied}
use Rattle.reached_histories.specs.history_core.specs.Events.{entry_seen}
use Rattle.reached_histories.specs.history_core.specs.Sound.{IsSound}
use Rattle.reached_histories.specs.history_core.proofs.Looks.{replied_parts}
use Rattle.reached_histories.specs.Requests.{or_none, request_at, requests_of}
use Rattle.reached_histories.specs.Laws.{HasHistory}
use Rattle.reached_histories.proofs.Histories.{reached_have}
use Rattle.resource_bounds.specs.Makes.{added, inserts, FewAreAdded}

-- each entry of a replayed history has the reply of some map, and it is one with a word
replayed_reply : (history : List Stamped) → IsReplayed history → AreSmall history → (i : ℕ) (e : Stamped) → slice_get history i ≡ Some e
    → (pairs : Pairs) × (e.reply ≡ reply_of pairs e.op) × IsReply e.reply
replayed_reply history replayed small i e at = (of.0, of.1, replies_small history replayed small i e at)
  where
    some_map : (history : List Stamped) → IsReplayed history → (i : ℕ) → slice_get history i ≡ Some e → (pairs : Pairs) × (e.reply ≡ reply_of pairs e.op)
    some_map [] replayed i at = absurd (let z = at in cc)
    some_map (x ∷ history) replayed zero at = (map_of history, subst (λ (y : Stamped). y.reply ≡ reply_of (map_of history) y.op) (let z : x ≡ e = cc in z) replayed.0)
    some_map (x ∷ history) replayed (suc i) at = some_map history replayed.1 i at

    of : (pairs : Pairs) × (e.reply ≡ reply_of pairs e.op)
    of = some_map history replayed i at

-- the sum over the numbers below this one
abbrev sum_to : (ℕ → ℕ) → ℕ → ℕ
sum_to f zero = 0
sum_to f (suc n) = sum_to f n + f n

-- the first number apart
first_apart : (f : ℕ → ℕ) (n : ℕ) → sum_to f (suc n) ≡ f 0 + sum_to (λ i. f (suc i)) n
first_apart f zero = omega arith
first_apart f (suc n) = let rest = first_apart f n in omega (arith, rest)

abbrev flag_of : List Request → ℕ → ℕ
flag_of rs i = cond (may_add (request_at rs i).op) 1 0

-- counted by place, and along the list
by_place : (rs : List Request) → sum_to (flag_of rs) (length rs) ≡ inserts rs
by_place [] = refl
by_place (x ∷ rs) =
    let apart = first_apart (flag_of (x ∷ rs)) (length rs) in
    let rest = by_place rs in
    let sum = sum_by-cons (λ (q : Request). cond (may_add q.op) 1 0) x rs in omega (arith, apart, rest, sum)

few_by_place : (word : Spot → ℕ) (rs : List Request) → ((i : ℕ) → adds_by (word (spots.Reply i)) ≡ true → may_add (request_at rs i).op ≡ true)
    → (n : ℕ) → added word n ≤ sum_to (flag_of rs) n
few_by_place word rs h zero = omega arith
few_by_place word rs h (suc n) = let rest = few_by_place word rs h n in let one = by (adds_by (word (spots.Reply n))) refl in omega (arith, rest, one)
  where
    counts : (b : Bool) → b ≡ true → 1 ≤ cond b 1 0
    counts true e = omega arith
    counts false e = absurd (let z = e in cc)

    by : (b : Bool) → adds_by (word (spots.Reply n)) ≡ b → cond b 1 0 ≤ flag_of rs n
    by true e = counts (may_add (request_at rs n).op) (h n e)
    by false e = omega arith

each : (xs : List Request) (i : ℕ) (x : Request) → slice_get xs i ≡ Some x → All (λ (y : Request). IsAllowed y.op) xs → IsAllowed x.op
each xs i x at all = subst (λ (y : Request). IsAllowed y.op) (get_or_from_slice_get xs i x x at) (all i x (slice_get_within xs i x at))

module _ (m : Meaning) (l : Layout) (rs : List Request) (allowed : AreAllowed rs) (s : Sight) (stands : HasHistory m l rs s) (map : m.is_map ≡ true) where
  abbrev c : Requests
  c = requests_of m l rs

  abbrev h : HistoryState
  h = stands.state

  sound : IsSound c h
  sound = stands.joined.sound

  small : AreSmall h.history
  small i e is = subst GivesSmall (sym (stands.legal.entries.ops e (i, slice_get_within h.history i e is, get_or_from_slice_get h.history i e e is)))
      (by (slice_get rs e.number) refl)
    where
      by : (o : Option Request) → slice_get rs e.number ≡ o → GivesSmall (or_none o).op
      by None none v given = absurd (let z = given in cc)
      by (Some q) there v given = (each rs e.number q there allowed.each).value v given

  stamp_is : (n : ℕ) → h.stamp n ≡ s.word (spots.Stamp n)
  stamp_is n = stands.joined.tied.stamp n ∙ stands.whole.sections.words.stamp n

  reply_is : (n : ℕ) → h.reply n ≡ s.word (spots.Reply n)
  reply_is n = stands.joined.tied.reply n ∙ stands.whole.sections.words.reply n

  module _ (i : ℕ) (adds : adds_by (s.word (spots.Reply i)) ≡ true) where
    some : s.word (spots.Reply i) ≢ 0
    some = adds_some (s.word (spots.Reply i)) adds

    -- a stamped request stands in the history
    stamped_may : s.word (spots.Stamp i) ≢ 0 → may_add (request_at rs i).op ≡ true
    stamped_may stamped =
        let entry = stands.legal.entries.all i stamped in
        let there : s.word (spots.Reply entry.0.number) ≢ 0 = λ z. some (ap (λ n. s.word (spots.Reply n)) (sym entry.2) ∙ z) in
        let word : word_of entry.0.reply ≡ s.word (spots.Reply i) =
        sym (stands.legal.replies map entry.0 entry.1 there) ∙ ap (λ n. s.word (spots.Reply n)) entry.2 in
        let from = replayed_reply h.history (sound.history.replayed map) small entry.1.0 entry.0 (slice_get_read h.history (length h.history) entry.1.0 entry.0 refl entry.1.1 (sym entry.1.2)) in
        let op : entry.0.op ≡ (request_at rs i).op = stands.legal.entries.ops entry.0 entry.1 ∙ ap (λ n. (request_at rs n).op) entry.2 in
        ap may_add (sym op) ∙ adds_for from.0 entry.0.op (subst IsReply from.1 from.2) (ap (λ r. adds_by (word_of r)) (sym from.1) ∙ (ap adds_by word ∙ adds))

    -- the reply of a read whose stamp is to come is that of the map at its turn
    read_may : has_replied (h.look (c.worker i)) i ≡ true → may_add (request_at rs i).op ≡ true
    read_may replied =
        let p = replied_parts (h.look (c.worker i)) i replied in
        let look = sound.reads.looks (c.worker i) p.0 p.1 in
        let between = look.between p.2 in
        let turn = entry_seen c p.0 in
        let word : word_of p.0.reply ≡ s.word (spots.Reply i) = sym (look.answers map) ∙ (sym between.replied ∙ (ap h.reply p.3 ∙ reply_is i)) in
        ap (λ n. may_add (request_at rs n).op) (sym p.3)
        ∙ adds_for (map_before turn h.history) turn.op (turn_small turn h.history small)
        (ap (λ r. adds_by (word_of r)) (sym (look.reply map)) ∙ (ap adds_by word ∙ adds))

    insert_at : may_add (request_at rs i).op ≡ true
    insert_at = by (has_replied (h.look (c.worker i)) i) refl
      where
        by : (b : Bool) → has_replied (h.look (c.worker i)) i ≡ b → may_add (request_at rs i).op ≡ true
        by true is = read_may is
        by false is = stamped_may (λ none. sound.stamps.replied i (λ zero. some (sym (reply_is i) ∙ zero)) is (stamp_is i ∙ none))

pub few_added : (m : Meaning) → Laws m → (l : Layout) → IsWithinLimits l → (rs : List Request) → AreAllowed rs → (w : World) → Reached m l rs w
    → FewAreAdded m rs (sight m l rs w)
few_added m laws l limits rs allowed w reached map =
    let s : Sight = sight m l rs w in
    let stands = reached_have m laws l rs limits allowed w reached in
    let most = few_by_place s.word rs (λ i e. insert_at m l rs allowed s stands map i e) (length rs) in
    let same = by_place rs in omega (arith, most, same)
