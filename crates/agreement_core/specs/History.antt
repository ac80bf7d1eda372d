-- What was changed by the exchanges of sections, beside the state: each effect comes once.
use Rattle.std.specs.Prelude.{ℕ, suc, ◌+◌, ◌*◌, ◌<◌, ◌≤◌, ◌≡◌, ◌≢◌, true, false, ◌==◌, nat_lt, cond, List, [], ◌∷◌, length}
use Rattle.section_lines.specs.structure_laws.specs.body_terms.specs.Update.{upd}
use Rattle.section_lines.specs.structure_laws.specs.body_terms.specs.Line.{is_check, is_end}
use Rattle.section_lines.specs.structure_laws.specs.body_terms.specs.declared.micro.Source.{Source}
use Rattle.section_lines.specs.structure_laws.specs.body_terms.specs.declared.micro.Micro.{Micro}
use Rattle.section_lines.specs.structure_laws.specs.body_terms.specs.declared.micro.Micro.TheVariants as micros
use Rattle.agreement_core.specs.Update.{upd2}
use Rattle.agreement_core.specs.State.{Section, AgreementState, section_of}
use Rattle.agreement_core.specs.Checks.{stored_word, is_stamp_exchange, is_reply_exchange}
use Rattle.agreement_core.specs.Events.{Event, Publish, ExchangeCell, StampExchange, ReplyExchange, ReadReply, ReadStamp, after}

-- a cell was changed from one word to another
pub record Change : Type 0 where
  pub place : ℕ
  pub old : ℕ
  pub new : ℕ

-- the sections are numbered from 1 in the order of their publications. `section` gives the number of the
-- one that a descriptor had last, 0 for none. By section and place in its line: the changes that the
-- exchange there has made. By request: the words that were written to its stamp word and to its reply word;
-- and by section, those that its runs have written
pub record History : Type 0 where
  pub published : ℕ
  pub section : ℕ → ℕ
  pub moved : ℕ → ℕ → List Change
  pub stamps : ℕ → List ℕ
  pub replies : ℕ → List ℕ
  pub stamped : ℕ → List ℕ
  pub replied : ℕ → List ℕ

-- nothing was published or changed
abbrev pub no_history : History
no_history = record {
  published = 0;
  section = λ d. 0;
  moved = λ n i. [];
  stamps = λ q. [];
  replies = λ q. [];
  stamped = λ n. [];
  replied = λ n. [];
}

-- one more, where the exchange found the word that it expected
abbrev pub with_won : {A : Type 0} → ℕ → ℕ → A → List A → List A
with_won found expected x xs = cond (found == expected) (x ∷ xs) xs

-- the number of the section of a runner's run
abbrev pub number_of : AgreementState → History → ℕ → ℕ
number_of w h r = h.section ((w.run r).descriptor)

-- what the event adds
abbrev pub noted : AgreementState → History → Event → History
noted w h (Publish d lock word request code slot) =
    record h { published = suc h.published; section = upd h.section d (suc h.published) }
noted w h (ExchangeCell r place log value) = let q = w.run r in let n = number_of w h r in record h {
  moved = upd2 h.moved n q.at (with_won (w.shared.cells place) (q.trail log)
      (record { place = place; old = q.trail log; new = stored_word q.trail log value }) (h.moved n q.at));
}
noted w h (StampExchange r) =
    let n = number_of w h r in let request = (section_of w r).request in let stamp = 2 * ((w.run r).word + 1) in
    record h {
      stamps = upd h.stamps request (with_won (w.shared.stamp request) 0 stamp (h.stamps request));
      stamped = upd h.stamped n (with_won (w.shared.stamp request) 0 stamp (h.stamped n));
    }
noted w h (ReplyExchange r reply) = let n = number_of w h r in let request = (section_of w r).request in record h {
  replies = upd h.replies request (with_won (w.shared.reply request) 0 reply (h.replies request));
  replied = upd h.replied n (with_won (w.shared.reply request) 0 reply (h.replied n));
}
noted w h (ReadReply request reply) =
    record h { replies = upd h.replies request (with_won (w.shared.reply request) 0 reply (h.replies request)) }
noted w h (ReadStamp request stamp) =
    record h { stamps = upd h.stamps request (with_won (w.shared.stamp request) 0 stamp (h.stamps request)) }
noted w h _ = h

-- the history after a list of events
abbrev pub noted_all : AgreementState → History → List Event → History
noted_all w h [] = h
noted_all w h (e ∷ es) = noted_all (after w e) (noted w h e) es

-- the change that a step of a line makes, with these agreed words: that of its exchange of a cell, if it is one
abbrev pub change_of : (ℕ → ℕ) → Micro → List Change
change_of log (micros.ExchangeCell place k value) =
    record { place = place; old = log k; new = stored_word log k value } ∷ []
change_of log _ = []

-- the change that the step at this place of a section's line has made: none before its runs have come behind it
abbrev pub moves_of : Section → ℕ → List Change
moves_of s i = cond (nat_lt i s.edge) (change_of s.log (s.code i)) []

-- a word that was written once, if it isn't 0
abbrev pub written : ℕ → List ℕ
written word = cond (word == 0) [] (word ∷ [])

-- the history says what was changed by this state's sections, and of the earlier ones that nothing was changed twice
pub record IsExact (w : AgreementState) (h : History) : Type 0 where
  -- no section has a number above that of the last publication, and no two descriptors have the same section
  pub numbered : (d : ℕ) → h.section d ≤ h.published
  pub named : (d : ℕ) → w.used d ≡ true → 1 ≤ h.section d
  pub apart : (d d' : ℕ) → 1 ≤ h.section d → h.section d ≡ h.section d' → d ≡ d'
  pub unborn_moved : (n i : ℕ) → h.published < n → h.moved n i ≡ []
  pub unborn_stamped : (n : ℕ) → h.published < n → h.stamped n ≡ []
  pub unborn_replied : (n : ℕ) → h.published < n → h.replied n ≡ []
  -- until a section's descriptor is free again: each exchange below the edge moved its cell once, from the
  -- agreed word to the new one
  pub moved : (d i : ℕ) → w.used d ≡ true → h.moved (h.section d) i ≡ moves_of (w.section d) i
  pub moved_once : (n i : ℕ) → length (h.moved n i) ≤ 1
  -- each stamp word and each reply word that isn't 0 was written once
  pub stamps : (q : ℕ) → h.stamps q ≡ written (w.shared.stamp q)
  pub replies : (q : ℕ) → h.replies q ≡ written (w.shared.reply q)
  -- no section wrote twice, none wrote a word that is still 0, and none wrote whose runs haven't come
  -- behind the exchange
  pub stamped_once : (n : ℕ) → length (h.stamped n) ≤ 1
  pub replied_once : (n : ℕ) → length (h.replied n) ≤ 1
  pub unstamped : (d : ℕ) → w.used d ≡ true → w.shared.stamp (w.section d).request ≡ 0 → h.stamped (h.section d) ≡ []
  pub unreplied : (d : ℕ) → w.used d ≡ true → w.shared.reply (w.section d).request ≡ 0 → h.replied (h.section d) ≡ []
  pub stamped_late : (d : ℕ) → w.used d ≡ true
      → ((i : ℕ) → i < (w.section d).edge → is_stamp_exchange ((w.section d).code i) ≡ false)
      → h.stamped (h.section d) ≡ []
  pub replied_late : (d : ℕ) → w.used d ≡ true
      → ((i : ℕ) → i < (w.section d).edge → is_reply_exchange ((w.section d).code i) ≡ false)
      → h.replied (h.section d) ≡ []

-- a section that is done and answered: its runs came to the end of the line
pub record HasAnswered (s : Section) : Type 0 where
  pub done : s.done ≢ 0
  pub ended : is_end (s.code s.edge) ≡ true

-- a section that is done and didn't answer: its runs left at a check
pub record HasLeft (s : Section) : Type 0 where
  pub done : s.done ≢ 0
  pub check : is_check (s.code s.edge) ≡ true

-- each effect of a section that answered came once
pub record HappenedOnce (w : AgreementState) (h : History) (d : ℕ) : Type 0 where
  pub moved : (i place k : ℕ) (value : Source) → (w.section d).code i ≡ micros.ExchangeCell place k value
      → h.moved (h.section d) i
      ≡ record { place = place; old = (w.section d).log k; new = stored_word ((w.section d).log) k value } ∷ []
  pub stamp : h.stamps (w.section d).request ≡ w.shared.stamp (w.section d).request ∷ []
  pub reply : h.replies (w.section d).request ≡ w.shared.reply (w.section d).request ∷ []

-- a section had no effect
pub record NothingHappened (h : History) (n : ℕ) : Type 0 where
  pub moved : (i : ℕ) → h.moved n i ≡ []
  pub stamp : h.stamped n ≡ []
  pub reply : h.replied n ≡ []

-- what stands in the history stays
pub record Lasts (h h' : History) : Type 0 where
  pub moved : (n i : ℕ) → 1 ≤ length (h.moved n i) → h'.moved n i ≡ h.moved n i
  pub stamps : (q : ℕ) → 1 ≤ length (h.stamps q) → h'.stamps q ≡ h.stamps q
  pub replies : (q : ℕ) → 1 ≤ length (h.replies q) → h'.replies q ≡ h.replies q
  pub stamped : (n : ℕ) → 1 ≤ length (h.stamped n) → h'.stamped n ≡ h.stamped n
  pub replied : (n : ℕ) → 1 ≤ length (h.replied n) → h'.replied n ≡ h.replied n
