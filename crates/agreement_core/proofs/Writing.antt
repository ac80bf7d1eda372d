-- Each write of a stamp or a reply keeps the history exact.
use Rattle.std.proofs.Common.{◌≡◌, ◌≢◌, ℕ, suc, ◌+◌, ◌*◌, ◌<◌, ◌≤◌, Bool, true, false, cond, List, [], length, refl, sym, ap, ◌∙◌, subst, ⊎_elim, arith}
use Rattle.std.proofs.lemmas.Bool.{cases_eq}
use Rattle.std.specs.Prelude.{nat_lt}
use Rattle.section_lines.specs.structure_laws.specs.body_terms.specs.Update.{upd}
use Rattle.section_lines.specs.structure_laws.specs.body_terms.specs.Run.{written_once}
use Rattle.section_lines.specs.structure_laws.specs.body_terms.specs.declared.micro.Micro.{Micro}
use Rattle.section_lines.specs.structure_laws.specs.body_terms.specs.declared.micro.Micro.TheVariants as micros
use Rattle.agreement_core.specs.State.{CellRules, Section, Run, AgreementState}
use Rattle.agreement_core.specs.Checks.{came, is_stamp_exchange, is_reply_exchange}
use Rattle.agreement_core.specs.Events.{after}
use Rattle.agreement_core.specs.Events.{StampExchange, ReplyExchange, ReadReply, ReadStamp}
use Rattle.agreement_core.specs.Sound.{IsSound}
use Rattle.agreement_core.specs.History.{History, with_won, noted, written, IsExact}
use Rattle.agreement_core.proofs.Frame.{not_both}
use Rattle.agreement_core.proofs.Committing.{upd_here, upd_else}
use Rattle.agreement_core.proofs.Moving.{upd_split}
use Rattle.agreement_core.proofs.LineEvents.{positive}
use Rattle.agreement_core.proofs.Noting.{is_exchange, SectionLasts, lasts_came, one_lasts}
use Rattle.agreement_core.proofs.Exactly.{written_won, once_won}

zero_before : (f : ℕ → ℕ) (k word i : ℕ) → upd f k (written_once (f k) word) i ≡ 0 → f i ≡ 0
zero_before f k word i h = grind arith

nonzero_now : (f : ℕ → ℕ) (k word : ℕ) → 0 < word → upd f k (written_once (f k) word) k ≢ 0
nonzero_now f k word some h = grind arith

came_past : (edge n : ℕ) → n < cond (nat_lt edge (suc n)) (suc n) edge
came_past edge n = grind arith

-- a word of a request is written by one run, from 0: the words by request and by section
module _ (f : ℕ → ℕ) (all mine : ℕ → List ℕ) (request number word : ℕ) (some : 0 < word) where
  abbrev f' : ℕ → ℕ
  f' = upd f request (written_once (f request) word)

  abbrev all' : ℕ → List ℕ
  all' = upd all request (with_won (f request) 0 word (all request))

  abbrev mine' : ℕ → List ℕ
  mine' = upd mine number (with_won (f request) 0 word (mine number))

  pub all_written : ((q : ℕ) → all q ≡ written (f q)) → (q : ℕ) → all' q ≡ written (f' q)
  all_written exact = upd_split all request _ (λ q xs. xs ≡ written (f' q))
      (ap (with_won (f request) 0 word) (exact request) ∙ written_won (f request) word some ∙ ap written (sym (upd_here f request _)))
      (λ q ne. exact q ∙ ap written (sym (upd_else f request q _ ne)))

  pub mine_once : (f request ≡ 0 → mine number ≡ []) → ((n : ℕ) → length (mine n) ≤ 1) → (n : ℕ) → length (mine' n) ≤ 1
  mine_once none once = upd_split mine number _ (λ n xs. length xs ≤ 1) (once_won (f request) word (mine number) (once number) none)
      (λ n ne. once n)

  -- by descriptor: the number of its section, and its request
  module _ (d : ℕ) (used : ℕ → Bool) (numbers requests : ℕ → ℕ) (own_number : numbers d ≡ number) (own_request : requests d ≡ request)
      (apart : (d' : ℕ) → used d' ≡ true → numbers d' ≡ number → d' ≡ d) where
    mine_else : (d' : ℕ) → used d' ≡ true → d' ≢ d → mine' (numbers d') ≡ mine (numbers d')
    mine_else d' u ne = upd_else mine number (numbers d') _ (λ e. ne (apart d' u e))

    pub mine_written : ((d' : ℕ) → used d' ≡ true → f (requests d') ≡ 0 → mine (numbers d') ≡ []) → (d' : ℕ) → used d' ≡ true
        → f' (requests d') ≡ 0 → mine' (numbers d') ≡ []
    mine_written un d' u z = ⊎_elim
        (λ e. absurd (nonzero_now f request word some (ap f' (sym (ap requests e ∙ own_request)) ∙ z)))
        (λ ne. mine_else d' u ne ∙ un d' u (zero_before f request word (requests d') z))
        (cases_eq d' d)

    pub mine_late : (Late Late' : ℕ → Type 0) → (Late' d → ⊥) → ((d' : ℕ) → d' ≢ d → Late' d' → Late d')
        → ((d' : ℕ) → used d' ≡ true → Late d' → mine (numbers d') ≡ []) → (d' : ℕ) → used d' ≡ true → Late' d' → mine' (numbers d') ≡ []
    mine_late Late Late' never before un d' u late = ⊎_elim
        (λ e. absurd (never (subst Late' e late)))
        (λ ne. mine_else d' u ne ∙ un d' u (before d' ne late))
        (cases_eq d' d)

-- no step of this kind stands below the edge of this section
abbrev pub NoneBelow : (Micro → Bool) → Section → Type 0
NoneBelow kind s = (i : ℕ) → i < s.edge → kind (s.code i) ≡ false

module _ (c : CellRules) (w : AgreementState) (old : IsSound c w) (h : History) (exact : IsExact w h) (r : ℕ)
    (running : (w.run r).running ≡ true) where
  abbrev q : Run
  q = w.run r

  abbrev d : ℕ
  d = q.descriptor

  abbrev s : Section
  s = w.section d

  abbrev sections : ℕ → Section
  sections = upd w.section d (came s (suc q.at))

  used : w.used d ≡ true
  used = old.running_used r running

  behind : q.at ≤ s.edge
  behind = (old.runs r running).in_trail.behind

  lasts : is_exchange (s.code q.at) ≡ false → (d' : ℕ) → SectionLasts (w.section d') (sections d')
  lasts quiet = one_lasts w.section d (came s (suc q.at)) (lasts_came s q.at behind (λ e. quiet))

  apart : (d' : ℕ) → w.used d' ≡ true → h.section d' ≡ h.section d → d' ≡ d
  apart d' u e = exact.apart d' d (exact.named d' u) e

  -- this step stands below the edge now
  passed : (kind : Micro → Bool) → kind (s.code q.at) ≡ true → NoneBelow kind (sections d) → ⊥
  passed kind is none =
      let none' : NoneBelow kind (came s (suc q.at)) = subst (NoneBelow kind) (upd_here w.section d _) none in
      not_both _ is (none' q.at (came_past s.edge q.at))

  none_before : (kind : Micro → Bool) → (d' : ℕ) → d' ≢ d → NoneBelow kind (sections d') → NoneBelow kind (w.section d')
  none_before kind d' ne none = subst (NoneBelow kind) (upd_else w.section d d' _ ne) none

  none_still : is_exchange (s.code q.at) ≡ false → (kind : Micro → Bool) → (d' : ℕ) → NoneBelow kind (sections d')
      → NoneBelow kind (w.section d')
  none_still quiet kind d' none i lt = ap (λ (f : ℕ → Micro). kind (f i)) (sym (lasts quiet d').code)
      ∙ none i (let e = (lasts quiet d').edge in omega arith)

  pub stamp_exact : s.code q.at ≡ micros.StampExchange → IsExact (after w (StampExchange r)) (noted w h (StampExchange r))
  stamp_exact next =
      let stamp = 2 * (q.word + 1) in
      let some : 0 < stamp = omega arith in
      let n = h.section d in
      let quiet : is_exchange (s.code q.at) ≡ false = ap is_exchange next in
      let request : (d' : ℕ) → (sections d').request ≡ (w.section d').request = λ d'. (lasts quiet d').request in
      record {
        numbered = exact.numbered;
        named = exact.named;
        apart = exact.apart;
        unborn_moved = exact.unborn_moved;
        unborn_stamped = λ m lt. upd_else h.stamped n m _ (λ e. let b = exact.numbered d in omega arith) ∙ exact.unborn_stamped m lt;
        unborn_replied = exact.unborn_replied;
        moved = λ d' i u. exact.moved d' i u ∙ sym ((lasts quiet d').moves i);
        moved_once = exact.moved_once;
        stamps = all_written w.shared.stamp h.stamps h.stamped s.request n stamp some exact.stamps;
        replies = exact.replies;
        stamped_once = mine_once w.shared.stamp h.stamps h.stamped s.request n stamp some (exact.unstamped d used) exact.stamped_once;
        replied_once = exact.replied_once;
        unstamped = λ d' u z. mine_written w.shared.stamp h.stamps h.stamped s.request n stamp some d w.used h.section
            (λ d'. (w.section d').request) refl refl apart exact.unstamped d' u
            (ap (upd w.shared.stamp s.request (written_once (w.shared.stamp s.request) stamp)) (sym (request d')) ∙ z);
        unreplied = λ d' u z. exact.unreplied d' u (ap w.shared.reply (sym (request d')) ∙ z);
        stamped_late = mine_late w.shared.stamp h.stamps h.stamped s.request n stamp some d w.used h.section
            (λ d'. (w.section d').request) refl refl apart
            (λ d'. NoneBelow is_stamp_exchange (w.section d'))
            (λ d'. NoneBelow is_stamp_exchange (sections d')) (passed is_stamp_exchange (ap is_stamp_exchange next))
            (none_before is_stamp_exchange) exact.stamped_late;
        replied_late = λ d' u late. exact.replied_late d' u (none_still quiet is_reply_exchange d' late);
      }

  pub reply_exact : (reply : ℕ) → 0 < reply → s.code q.at ≡ micros.ReplyExchange reply
      → IsExact (after w (ReplyExchange r reply)) (noted w h (ReplyExchange r reply))
  reply_exact reply some next =
      let n = h.section d in
      let quiet : is_exchange (s.code q.at) ≡ false = ap is_exchange next in
      let request : (d' : ℕ) → (sections d').request ≡ (w.section d').request = λ d'. (lasts quiet d').request in
      record {
        numbered = exact.numbered;
        named = exact.named;
        apart = exact.apart;
        unborn_moved = exact.unborn_moved;
        unborn_stamped = exact.unborn_stamped;
        unborn_replied = λ m lt. upd_else h.replied n m _ (λ e. let b = exact.numbered d in omega arith) ∙ exact.unborn_replied m lt;
        moved = λ d' i u. exact.moved d' i u ∙ sym ((lasts quiet d').moves i);
        moved_once = exact.moved_once;
        stamps = exact.stamps;
        replies = all_written w.shared.reply h.replies h.replied s.request n reply some exact.replies;
        stamped_once = exact.stamped_once;
        replied_once = mine_once w.shared.reply h.replies h.replied s.request n reply some (exact.unreplied d used) exact.replied_once;
        unstamped = λ d' u z. exact.unstamped d' u (ap w.shared.stamp (sym (request d')) ∙ z);
        unreplied = λ d' u z. mine_written w.shared.reply h.replies h.replied s.request n reply some d w.used h.section
            (λ d'. (w.section d').request) refl refl apart exact.unreplied d' u
            (ap (upd w.shared.reply s.request (written_once (w.shared.reply s.request) reply)) (sym (request d')) ∙ z);
        stamped_late = λ d' u late. exact.stamped_late d' u (none_still quiet is_stamp_exchange d' late);
        replied_late = mine_late w.shared.reply h.replies h.replied s.request n reply some d w.used h.section
            (λ d'. (w.section d').request) refl refl apart
            (λ d'. NoneBelow is_reply_exchange (w.section d'))
            (λ d'. NoneBelow is_reply_exchange (sections d')) (passed is_reply_exchange (ap is_reply_exchange next))
            (none_before is_reply_exchange) exact.replied_late;
      }

-- a word of a request is written outside of sections, by a read
module _ (w : AgreementState) (h : History) (exact : IsExact w h) where
  pub read_reply_exact : (request reply : ℕ) → reply ≢ 0
      → IsExact (after w (ReadReply request reply)) (noted w h (ReadReply request reply))
  read_reply_exact request reply some = record {
    numbered = exact.numbered;
    named = exact.named;
    apart = exact.apart;
    unborn_moved = exact.unborn_moved;
    unborn_stamped = exact.unborn_stamped;
    unborn_replied = exact.unborn_replied;
    moved = exact.moved;
    moved_once = exact.moved_once;
    stamps = exact.stamps;
    replies = all_written w.shared.reply h.replies h.replied request 0 reply (positive reply some) exact.replies;
    stamped_once = exact.stamped_once;
    replied_once = exact.replied_once;
    unstamped = exact.unstamped;
    unreplied = λ d used none. exact.unreplied d used (zero_before w.shared.reply request reply ((w.section d).request) none);
    stamped_late = exact.stamped_late;
    replied_late = exact.replied_late;
  }

  pub read_stamp_exact : (request stamp : ℕ) → stamp ≢ 0
      → IsExact (after w (ReadStamp request stamp)) (noted w h (ReadStamp request stamp))
  read_stamp_exact request stamp some = record {
    numbered = exact.numbered;
    named = exact.named;
    apart = exact.apart;
    unborn_moved = exact.unborn_moved;
    unborn_stamped = exact.unborn_stamped;
    unborn_replied = exact.unborn_replied;
    moved = exact.moved;
    moved_once = exact.moved_once;
    stamps = all_written w.shared.stamp h.stamps h.stamped request 0 stamp (positive stamp some) exact.stamps;
    replies = exact.replies;
    stamped_once = exact.stamped_once;
    replied_once = exact.replied_once;
    unstamped = λ d used none. exact.unstamped d used (zero_before w.shared.stamp request stamp ((w.section d).request) none);
    unreplied = exact.unreplied;
    stamped_late = exact.stamped_late;
    replied_late = exact.replied_late;
  }
