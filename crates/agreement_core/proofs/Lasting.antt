-- What stands in the history stays; what it says of a section that is done.
use Rattle.std.proofs.Common.{◌≡◌, ◌≢◌, ℕ, ◌<◌, ◌≤◌, true, false, List, [], ◌∷◌, length, refl, ap, ◌∙◌, subst, inl, inr, ⊎_elim, arith}
use Rattle.std.proofs.lemmas.Bool.{cases_lt}
use Rattle.std.specs.Prelude.{◌⊎◌}
use Rattle.section_lines.specs.structure_laws.specs.body_terms.specs.Update.{upd}
use Rattle.section_lines.specs.structure_laws.specs.body_terms.specs.Line.{is_check, is_end}
use Rattle.section_lines.specs.structure_laws.specs.body_terms.specs.declared.micro.Source.{Source}
use Rattle.section_lines.specs.structure_laws.specs.body_terms.specs.declared.micro.Micro.{Micro}
use Rattle.section_lines.specs.structure_laws.specs.body_terms.specs.declared.micro.Micro.TheVariants as micros
use Rattle.section_lines.specs.Line.{phase}
use Rattle.agreement_core.specs.State.{CellRules, Section, AgreementState, section_of}
use Rattle.agreement_core.specs.Checks.{is_stop, is_stamp_exchange, is_reply_exchange}
use Rattle.agreement_core.specs.Events.{Event, Enabled}
use Rattle.agreement_core.specs.Events.{Publish, StampExchange, ExchangeCell, ReplyExchange, ReadReply, ReadStamp}
use Rattle.agreement_core.specs.Sound.{UsedIsSound, IsSound}
use Rattle.agreement_core.specs.History.{History, with_won, noted, change_of, written, IsExact, Lasts, HasAnswered, HasLeft, HappenedOnce, NothingHappened}
use Rattle.agreement_core.proofs.Moving.{upd_split}
use Rattle.agreement_core.proofs.LineEvents.{store_misses}
use Rattle.agreement_core.proofs.Noting.{is_exchange, no_change, below, above}
use Rattle.agreement_core.proofs.Exactly.{won_not, two_split}

none_of : {A : Type 0} → (xs : List A) → 1 ≤ length xs → xs ≡ [] → ⊥
none_of xs le e = let h : 1 ≤ 0 = subst (λ (ys : List _). 1 ≤ length ys) e le in omega arith

pub lasts_refl : (h : History) → Lasts h h
lasts_refl h = record {
  moved = λ n i le. refl;
  stamps = λ q le. refl;
  replies = λ q le. refl;
  stamped = λ n le. refl;
  replied = λ n le. refl;
}

written_none : (word : ℕ) → word ≡ 0 → written word ≡ []
written_none word e = grind arith

-- a list to which is added only where it was empty
added : (all : ℕ → List ℕ) (k found word : ℕ) → (found ≡ 0 → all k ≡ []) → (q : ℕ) → 1 ≤ length (all q)
    → upd all k (with_won found 0 word (all k)) q ≡ all q
added all k found word none = upd_split all k _ (λ q xs. 1 ≤ length (all q) → xs ≡ all q)
    (λ le. won_not found 0 word (all k) (λ e. none_of (all k) le (none e))) (λ q ne le. refl)

module _ (c : CellRules) (w : AgreementState) (old : IsSound c w) (h : History) (exact : IsExact w h) (r : ℕ) where
  exchange_lasts : (place log : ℕ) (v : Source) → Enabled c w (ExchangeCell r place log v)
      → Lasts h (noted w h (ExchangeCell r place log v))
  exchange_lasts place log v ok =
      let q = w.run r in
      let used = old.running_used r ok.running in
      let behind = (old.runs r ok.running).in_trail.behind in
      let s = section_of w r in
      record {
        moved = two_split h.moved (h.section q.descriptor) q.at _ (λ n i xs. 1 ≤ length (h.moved n i) → xs ≡ h.moved n i)
            (λ le. ⊎_elim (λ lt. won_not _ _ _ _ (store_misses c w old r place log v ok.running ok.next lt))
            (λ ge. absurd (none_of _ le (exact.moved q.descriptor q.at used ∙ above q.at s.edge _ _ ge))) (cases_lt q.at s.edge))
            (λ n i le. refl);
        stamps = λ n le. refl;
        replies = λ n le. refl;
        stamped = λ n le. refl;
        replied = λ n le. refl;
      }

  stamp_lasts : Enabled c w (StampExchange r) → Lasts h (noted w h (StampExchange r))
  stamp_lasts ok =
      let s = section_of w r in
      let used = old.running_used r ok.running in
      record {
        moved = λ n i le. refl;
        stamps = added h.stamps s.request (w.shared.stamp s.request) _ (λ e. exact.stamps s.request ∙ written_none _ e);
        replies = λ n le. refl;
        stamped = added h.stamped (h.section (w.run r).descriptor) (w.shared.stamp s.request) _ (exact.unstamped _ used);
        replied = λ n le. refl;
      }

  reply_lasts : (reply : ℕ) → Enabled c w (ReplyExchange r reply) → Lasts h (noted w h (ReplyExchange r reply))
  reply_lasts reply ok =
      let s = section_of w r in
      let used = old.running_used r ok.running in
      record {
        moved = λ n i le. refl;
        stamps = λ n le. refl;
        replies = added h.replies s.request (w.shared.reply s.request) _ (λ e. exact.replies s.request ∙ written_none _ e);
        stamped = λ n le. refl;
        replied = added h.replied (h.section (w.run r).descriptor) (w.shared.reply s.request) _ (exact.unreplied _ used);
      }

pub lasts : (c : CellRules) (w : AgreementState) (h : History) (e : Event) → Enabled c w e → IsSound c w → IsExact w h
    → Lasts h (noted w h e)
lasts c w h (ExchangeCell r place log value) ok old exact = exchange_lasts c w old h exact r place log value ok
lasts c w h (StampExchange r) ok old exact = stamp_lasts c w old h exact r ok
lasts c w h (ReplyExchange r reply) ok old exact = reply_lasts c w old h exact r reply ok
lasts c w h (ReadReply request reply) ok old exact = record {
  moved = λ n i le. refl;
  stamps = λ q le. refl;
  replies = added h.replies request (w.shared.reply request) reply (λ e. exact.replies request ∙ written_none _ e);
  stamped = λ n le. refl;
  replied = λ n le. refl;
}
lasts c w h (ReadStamp request stamp) ok old exact = record {
  moved = λ n i le. refl;
  stamps = added h.stamps request (w.shared.stamp request) stamp (λ e. exact.stamps request ∙ written_none _ e);
  replies = λ q le. refl;
  stamped = λ n le. refl;
  replied = λ n le. refl;
}
lasts c w h (Publish d lock word request code slot) ok old exact =
    record { moved = λ n i le. refl; stamps = λ q le. refl; replies = λ q le. refl; stamped = λ n le. refl; replied = λ n le. refl }
lasts c w h e ok old exact = lasts_refl h

pub end_is : (m : Micro) → is_end m ≡ true → m ≡ micros.End
end_is micros.End e = refl
end_is m e = grind arith

pub check_phase : (m : Micro) → is_check m ≡ true → phase m ≡ 1
check_phase m e = grind arith

late_phase : (m : Micro) → phase m ≤ 1 → (is_exchange m ≡ false) × (is_stamp_exchange m ≡ false) × (is_reply_exchange m ≡ false)
late_phase m e = (grind arith, grind arith, grind arith)

written_some : (word : ℕ) → 0 < word → written word ≡ word ∷ []
written_some word some = grind arith

end_or_check : (c : CellRules) (d : ℕ) (log : ℕ → ℕ) (m : Micro) → is_stop c d log m ≡ true → (is_end m ≡ true) ⊎ (is_check m ≡ true)
end_or_check c d log m stop = grind arith

pub answered_or_left : (c : CellRules) (w : AgreementState) → IsSound c w → (d : ℕ) → w.used d ≡ true → (w.section d).done ≢ 0
    → HasAnswered (w.section d) ⊎ HasLeft (w.section d)
answered_or_left c w old d used done =
    let s = w.section d in
    ⊎_elim (λ e. inl (record { done = done; ended = e }))
    (λ e. inr (record { done = done; check = e })) (end_or_check c d s.log (s.code s.edge)
    ((old.sections d used).section.in_log.stops done))

-- each step of an earlier phase is below the end
pub before_end : (c : CellRules) (w : AgreementState) → IsSound c w → (d : ℕ) → w.used d ≡ true → HasAnswered (w.section d)
    → (i : ℕ) → phase ((w.section d).code i) < 7 → i < (w.section d).edge
before_end c w old d used answered i lt =
    let s = w.section d in
    ⊎_elim (λ l. l)
    (λ le.
    let a : phase (s.code s.edge) ≡ 7 = ap phase (end_is _ answered.ended) in
    let b = (old.sections d used).published.line.in_phases.phases s.edge i le in
    absurd (omega arith))
    (cases_lt i s.edge)

module _ (c : CellRules) (w : AgreementState) (old : IsSound c w) (h : History) (exact : IsExact w h) (d : ℕ) (used : w.used d ≡ true) where
  abbrev s : Section
  s = w.section d

  own : UsedIsSound c w.shared (w.live d) (w.over d) d s
  own = old.sections d used

  pub happened : HasAnswered s → HappenedOnce w h d
  happened answered =
      let line = own.published.line.stamped in
      let at_stamp : line.stamp < s.edge = before_end c w old d used answered line.stamp
      (let a : phase (s.code line.stamp) ≡ 3 = ap phase line.stamps in omega arith) in
      let at_answer : line.answer < s.edge = before_end c w old d used answered line.answer
      (let a : phase (s.code line.answer) ≡ 6 = ap phase line.answers in omega arith) in
      record {
        moved = λ i place k v e.
            exact.moved d i used ∙ below i s.edge _ _ (before_end c w old d used answered i
            (let a : phase (s.code i) ≡ 4 = ap phase e in omega arith))
            ∙ ap (change_of s.log) e;
        stamp = exact.stamps s.request
            ∙ written_some _ (own.section.in_request.stamped line.stamp at_stamp (ap is_stamp_exchange line.stamps));
        reply = exact.replies s.request
            ∙ written_some _ (own.section.in_request.replied line.answer at_answer (ap is_reply_exchange line.answers));
      }

  -- no effect stands before a check
  pub nothing : HasLeft s → NothingHappened h (h.section d)
  nothing left =
      let early : (i : ℕ) → i < s.edge → phase (s.code i) ≤ 1 = λ i lt. let a = check_phase _ left.check in
      let b = own.published.line.in_phases.phases i s.edge (let z = lt in omega arith) in omega arith in
      record {
        moved = λ i. exact.moved d i used ∙ ⊎_elim
            (λ lt. below i s.edge _ _ lt ∙ no_change s.log _ (late_phase _ (early i lt)).0)
            (λ le. above i s.edge _ _ le) (cases_lt i s.edge);
        stamp = exact.stamped_late d used (λ i lt. (late_phase _ (early i lt)).1);
        reply = exact.replied_late d used (λ i lt. (late_phase _ (early i lt)).2);
      }
