-- The entries of a closed table are legal.
use Rattle.std.proofs.Common.{◌≡◌, ◌≢◌, ℕ, ◌<◌, ◌≤◌, ◌^◌, Bool, true, false, cond, List, Option, Some, length, refl, sym, ap, ◌∙◌, subst, arith}
use Rattle.std.specs.Prelude.{Contains, slice_get, nat_lt}
use Rattle.std.specs.FinMap.{len}
use Rattle.std.proofs.lemmas.Bool.Decides.{nat_tests}
use Rattle.std.proofs.lemmas.List.Elements.{All-get_or}
use Rattle.std.proofs.lemmas.Option.{slice_get_within, slice_get-get_or, get_or_from_slice_get}
use Rattle.history_orders.specs.map_history.specs.declared.op.Entry.{Entry}
use Rattle.history_orders.specs.map_history.specs.declared.op.Request.{Request}
use Rattle.history_orders.specs.map_history.specs.declared.reply.Reply as replies
use Rattle.history_orders.specs.map_history.specs.Keys.{value_given}
use Rattle.history_orders.specs.map_history.specs.Words as words
use Rattle.history_orders.specs.Stamped.{Stamped}
use Rattle.history_orders.proofs.Replays.{oldest_first-legal}
use Rattle.structure_laws.specs.table_words.specs.declared.spot.Spot.TheVariants.{Stamp, Reply}
use Rattle.structure_laws.specs.Meaning.{Meaning}
use Rattle.structure_laws.specs.Sections.{IsAllowed}
use Rattle.closed_words.specs.version_words.specs.machine_invariant.specs.After.{AreAllowed}
use Rattle.closed_words.specs.reached_histories.specs.Requests.{or_none, request_at}
use Rattle.history_orders.proofs.Replies.{replies_small}
use Rattle.report_text.specs.Entries.{AreLegal}
use Rattle.closed_words.specs.version_words.specs.TableState.{WordsState, word_of}
use Rattle.closed_words.specs.Histories.{HaveHistory, HoldsNoLock, AreSettled}
use Rattle.run_reports.specs.Reports.{HaveEntries, HaveContents}
use Rattle.run_reports.proofs.Few.{few_pairs}
use Rattle.run_reports.proofs.Legality.{AreHistory, shown_legal}

unseen : (there : Bool) (word : ℕ) → there ≡ false → cond there word 0 ≡ 0
unseen true word is = absurd (cc)
unseen false word is = refl

module _ {T : Type 0} (m : Meaning) (w : WordsState T) (allowed : AreAllowed w.requests) (have : HaveHistory m w) (map : m.is_map ≡ true)
    (none : HoldsNoLock m w) where
  settled : AreSettled m w have.history have.pairs
  settled = have.settled none

  -- a request that isn't the table's has no stamp
  within : (n : ℕ) → word_of m w (Stamp n) ≢ 0 → n < length w.requests
  within n stamped = by (nat_lt n (length w.requests)) refl
    where
      by : (b : Bool) → nat_lt n (length w.requests) ≡ b → n < length w.requests
      by true is = grind (arith, nat_tests)
      by false is = absurd (stamped (unseen _ _ is))

  at : (n : ℕ) (q : Request) → slice_get w.requests n ≡ Some q → request_at w.requests n ≡ q
  at n q is = ap or_none is

  -- the replies of the history have words
  small : (i : ℕ) (e : Stamped) → slice_get have.history i ≡ Some e → (v : ℕ) → value_given e.op ≡ Some v → v < 2 ^ 32
  small i e is v given =
      let member : Contains have.history e = (i, slice_get_within have.history i e is, get_or_from_slice_get have.history i e e is) in
      let inside = within e.number (λ zero. have.entries.stamped e member (have.entries.stamps e member ∙ zero)) in
      let q = request_at w.requests e.number in
      let there = slice_get-get_or w.requests e.number q inside in
      let allowed_there : IsAllowed (request_at w.requests e.number).op =
      subst (λ (r : Request). IsAllowed r.op) (sym (at e.number _ there)) (All-get_or (λ (r : Request). IsAllowed r.op) w.requests e.number q inside allowed.each) in
      allowed_there.value v (ap value_given (sym (have.entries.ops e member)) ∙ given)

  fit : (e : Stamped) → Contains have.history e → words.IsReply e.reply
  fit e at = replies_small have.history (oldest_first-legal have.history (have.legal map)) small at.0 e (slice_get-get_or have.history at.0 e at.1 ∙ ap Some at.2)

  history_is : AreHistory (request_at w.requests) (λ n. word_of m w (Stamp n)) (λ n. word_of m w (Reply n)) w.requests have.history
  history_is = record {
    at = at;
    within = within;
    entries = have.entries;
    legal = have.legal map;
    replies = settled.replies map;
    fit = fit;
    rising = have.rising;
  }

  -- so a request that has a stamp has the word of a reply
  pub has_reply : (n : ℕ) → word_of m w (Stamp n) ≢ 0 → (r : replies.Reply) × words.IsReply r × (words.word_of r ≡ word_of m w (Reply n))
  has_reply n stamped =
      let e = have.entries.all n stamped in
      (e.0.reply, fit e.0 e.1, sym (settled.replies map e.0 e.1) ∙ ap (λ k. word_of m w (Reply k)) e.2)

  -- and its entries are legal beside the contents
  pub closed_legal : (entries : List (Option Entry)) → HaveEntries m w entries → AreLegal w.requests entries (len have.pairs)
  closed_legal entries shown = subst (AreLegal w.requests entries) (ap len (sym (have.map map)))
      (shown_legal (request_at w.requests) (λ n. word_of m w (Stamp n)) (λ n. word_of m w (Reply n)) w.requests entries have.history history_is shown)

  pub closed_contents : HaveContents m w have.pairs
  closed_contents = settled.cells

  -- these are no more pairs than there are requests
  pub closed_few : len have.pairs ≤ length w.requests
  closed_few = subst (λ n. n ≤ length w.requests) (ap len (sym (have.map map)))
      (few_pairs (λ n. (request_at w.requests n).op) (λ n. word_of m w (Stamp n)) have.history (length w.requests) have.entries within)
