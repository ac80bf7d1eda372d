-- Which events of the components leave the logs as they are, and what the others write into them.
use Rattle.std.specs.Prelude.{◌==◌, cond, Bool, true, false, replicate}
use Rattle.std.proofs.Common.{◌≡◌, ℕ, zero, suc, List, [], ◌∷◌, ◌++◌, refl, sym, ap, ◌∙◌, arith}
use Rattle.std.proofs.lemmas.Bool.Decides.{nat_tests}
use Rattle.machine_states.specs.table_words.specs.declared.layout.Layout.{Layout}
use Rattle.machine_states.specs.table_words.specs.Seen.{upd}
use Rattle.machine_states.specs.structure_laws.specs.Meaning.{Meaning}
use Rattle.machine_states.specs.body_terms.specs.Run.{written_once}
use Rattle.machine_states.specs.body_terms.specs.declared.micro.Micro.{Micro}
use Rattle.agreement_core.specs.State.{CellRules, Section, AgreementState, section_of}
use Rattle.agreement_core.specs.Checks.{came}
use Rattle.agreement_core.specs.Events as agreement
use Rattle.agreement_core.specs.Schedules as agreement_schedules
use Rattle.machine_states.specs.epoch_core.specs.Update.{upd2}
use Rattle.machine_states.specs.epoch_core.specs.State.{Counts, EpochState}
use Rattle.machine_states.specs.epoch_core.specs.Events as epochs
use Rattle.machine_states.specs.epoch_core.specs.Schedules as epoch_schedules
use Rattle.machine_states.proofs.Updates.{upd_split, map_cond}
use Rattle.machine_guards.specs.machine_agreement.specs.machine_scenes.specs.Shown.{rules_of}
use Rattle.machine_guards.specs.machine_agreement.specs.Goes.{Leads}
use Rattle.machine_guards.proofs.Places.{AllAre, append_are}

-- the logs of agreement's sections
abbrev pub logs_of : AgreementState → ℕ → ℕ → ℕ
logs_of w d k = (w.section d).log k

-- an event of agreement that writes no log word
abbrev pub leaves_logs : agreement.Event → Bool
leaves_logs (agreement.Publish d lock word request code slot) = false
leaves_logs (agreement.StoreLog d log word) = false
leaves_logs (agreement.Commit r place log) = false
leaves_logs (agreement.NestedCommit r place log) = false
leaves_logs (agreement.OutcomeCommit r place log) = false
leaves_logs (agreement.MakeCommit r log proposal) = false
leaves_logs (agreement.RetireCommit r slot log) = false
leaves_logs _ = true

-- a section with the same log in the place of one
same_log : (section : ℕ → Section) (n : ℕ) (x : Section) → ((k : ℕ) → x.log k ≡ (section n).log k)
    → (d k : ℕ) → (upd section n x d).log k ≡ (section d).log k
same_log section n x same = upd_split section n x (λ i y. (k : ℕ) → y.log k ≡ (section i).log k) same (λ i ne k. refl)

-- a section in the place of one whose log is changed at one place
written_log : (section : ℕ → Section) (n k v : ℕ) (x : Section) → ((j : ℕ) → x.log j ≡ upd ((section n).log) k v j)
    → (i j : ℕ) → (upd section n x i).log j ≡ upd2 (λ d h. (section d).log h) n k v i j
written_log section n k v x is i j =
    map_cond (λ (y : Section). y.log j) (i == n) x (section i)
    ∙ (ap (λ u. cond (i == n) u ((section i).log j)) (is j) ∙ one_row (λ d h. (section d).log h) n k v i j)
  where
    one_row : (f : ℕ → ℕ → ℕ) (n k v i j : ℕ) → cond (i == n) (cond (j == k) v (f n j)) (f i j) ≡ cond (i == n) (cond (j == k) v (f i j)) (f i j)
    one_row f n k v i j = grind (arith, nat_tests)

module _ (w : AgreementState) where
  -- a run goes on behind its step
  goes_on_logs : (r d k : ℕ) → (upd w.section ((w.run r).descriptor) (came (section_of w r) (suc ((w.run r).at))) d).log k ≡ logs_of w d k
  goes_on_logs r = same_log w.section ((w.run r).descriptor) (came (section_of w r) (suc ((w.run r).at))) (λ k. refl)

  logs_stay : (v : agreement.Event) → leaves_logs v ≡ true → (d k : ℕ) → logs_of (agreement.after w v) d k ≡ logs_of w d k
  logs_stay (agreement.Publish d lock word request code slot) e = absurd (let y = e in cc)
  logs_stay (agreement.StoreLog d log word) e = absurd (let y = e in cc)
  logs_stay (agreement.StoreDone d word) e = same_log w.section d (record (w.section d) { done = word }) (λ k. refl)
  logs_stay (agreement.Pass r) e = goes_on_logs r
  logs_stay (agreement.SetDone r) e =
      same_log w.section ((w.run r).descriptor) (record (section_of w r) { done = written_once ((section_of w r).done) 1 }) (λ k. refl)
  logs_stay (agreement.LoadCell r place log) e = goes_on_logs r
  logs_stay (agreement.Commit r place log) e = absurd (let y = e in cc)
  logs_stay (agreement.NestedLoad r place log) e = goes_on_logs r
  logs_stay (agreement.NestedCommit r place log) e = absurd (let y = e in cc)
  logs_stay (agreement.NestedHold r place word) e = goes_on_logs r
  logs_stay (agreement.OutcomeLoad r place log) e = goes_on_logs r
  logs_stay (agreement.OutcomeCommit r place log) e = absurd (let y = e in cc)
  logs_stay (agreement.PrivateLoad r cell log place) e = goes_on_logs r
  logs_stay (agreement.PrivateStore r cell log value place word) e = goes_on_logs r
  logs_stay (agreement.MakeCommit r log proposal) e = absurd (let y = e in cc)
  logs_stay (agreement.ClockLoad r) e = goes_on_logs r
  logs_stay (agreement.StampExchange r) e = goes_on_logs r
  logs_stay (agreement.ClockRaise r) e = goes_on_logs r
  logs_stay (agreement.ExchangeCell r place log value) e = goes_on_logs r
  logs_stay (agreement.EpochForRetire r slot log epoch) e = goes_on_logs r
  logs_stay (agreement.RetireCommit r slot log) e = absurd (let y = e in cc)
  logs_stay (agreement.ReplyExchange r reply) e = goes_on_logs r
  logs_stay _ e = λ d k. refl

  -- a commit
  pub agreed_logs : (r log proposal i j : ℕ) → logs_of (agreement.agrees w r log proposal) i j
      ≡ upd2 (logs_of w) ((w.run r).descriptor) log (written_once (logs_of w ((w.run r).descriptor) log) proposal) i j
  agreed_logs r log proposal = written_log w.section ((w.run r).descriptor) log (written_once ((section_of w r).log log) proposal)
      (came (record (section_of w r) { log = upd ((section_of w r).log) log (written_once ((section_of w r).log log) proposal) }) (suc ((w.run r).at)))
      (λ j. refl)

  -- a publication, which begins with an empty log
  pub published_logs : (n lock word request : ℕ) (code : ℕ → Micro) (slot : ℕ → ℕ) (i j : ℕ)
      → logs_of (agreement.after w (agreement.Publish n lock word request code slot)) i j ≡ cond (i == n) 0 (logs_of w i j)
  published_logs n lock word request code slot i j = map_cond (λ (y : Section). y.log j) (i == n)
      (record (w.section n) { lock = lock; word = word; request = request; code = code; slot = slot; log = λ k. 0; edge = 0 }) (w.section i)

  -- a private store
  pub stored_logs : (d log word i j : ℕ) → logs_of (agreement.after w (agreement.StoreLog d log word)) i j ≡ upd2 (logs_of w) d log word i j
  stored_logs d log word = written_log w.section d log word (record (w.section d) { log = upd ((w.section d).log) log word }) (λ j. refl)

all_stay : (c : CellRules) (w : AgreementState) (vs : List agreement.Event) → AllAre leaves_logs vs
    → (d k : ℕ) → logs_of (agreement_schedules.after_all c w vs) d k ≡ logs_of w d k
all_stay c w [] are d k = refl
all_stay c w (v ∷ vs) are d k = all_stay c (agreement.after w v) vs are.1 d k ∙ logs_stay w v are.0 d k

checks_leave : (r n : ℕ) → AllAre leaves_logs (replicate n (agreement.Pass r))
checks_leave r zero = tt
checks_leave r (suc n) = (refl, checks_leave r n)

-- the events of agreement of a step, with the checks that pass behind them
module _ (m : Meaning) (l : Layout) (a a' : AgreementState) (r : ℕ) (heads : List agreement.Event) (leads : Leads m l r heads a a') where
  abbrev checks : List agreement.Event
  checks = replicate leads.passes (agreement.Pass r)

  pub logs_same : AllAre leaves_logs heads → (d k : ℕ) → logs_of a' d k ≡ logs_of a d k
  logs_same are d k = ap (λ (v : AgreementState). logs_of v d k) (sym leads.there)
      ∙ all_stay (rules_of m l) a (heads ++ checks) (append_are leaves_logs heads checks are (checks_leave r leads.passes)) d k

  pub logs_after : (v : agreement.Event) → heads ≡ v ∷ [] → (d k : ℕ) → logs_of a' d k ≡ logs_of (agreement.after a v) d k
  logs_after v is d k =
      ap (λ (u : AgreementState). logs_of u d k) (sym leads.there ∙ ap (λ es. agreement_schedules.after_all (rules_of m l) a (es ++ checks)) is)
      ∙ all_stay (rules_of m l) (agreement.after a v) checks (checks_leave r leads.passes) d k

  pub logs_behind : (u v : agreement.Event) → heads ≡ u ∷ v ∷ [] → (d k : ℕ) → logs_of a' d k ≡ logs_of (agreement.after (agreement.after a u) v) d k
  logs_behind u v is d k =
      ap (λ (w : AgreementState). logs_of w d k) (sym leads.there ∙ ap (λ es. agreement_schedules.after_all (rules_of m l) a (es ++ checks)) is)
      ∙ all_stay (rules_of m l) (agreement.after (agreement.after a u) v) checks (checks_leave r leads.passes) d k

-- an event of epochs and slots that writes no log word
abbrev pub leaves_log : epochs.Event → Bool
leaves_log (epochs.Publish r d roles) = false
leaves_log (epochs.MakeCommit r d index slot worn) = false
leaves_log (epochs.RetireCommit r) = false
leaves_log (epochs.WordCommit r d index word) = false
leaves_log (epochs.StoreLog r d index word) = false
leaves_log _ = true

log_stays : (c : Counts) (w : EpochState) (v : epochs.Event) → leaves_log v ≡ true → (epochs.after c w v).log ≡ w.log
log_stays c w (epochs.Publish r d roles) e = absurd (let y = e in cc)
log_stays c w (epochs.MakeCommit r d index slot worn) e = absurd (let y = e in cc)
log_stays c w (epochs.RetireCommit r) e = absurd (let y = e in cc)
log_stays c w (epochs.WordCommit r d index word) e = absurd (let y = e in cc)
log_stays c w (epochs.StoreLog r d index word) e = absurd (let y = e in cc)
log_stays c w _ e = refl

pub log_same : (c : Counts) (w : EpochState) (vs : List epochs.Event) → AllAre leaves_log vs → (epoch_schedules.after_all c w vs).log ≡ w.log
log_same c w [] are = refl
log_same c w (v ∷ vs) are = log_same c (epochs.after c w v) vs are.1 ∙ log_stays c w v are.0
