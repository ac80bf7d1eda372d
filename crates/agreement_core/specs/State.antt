-- The state of agreement: the shared words, the sections by descriptor, and the runs by runner.
use Rattle.std.specs.Prelude.{ℕ, ◌≡◌, Bool, true}
use Rattle.section_lines.specs.structure_laws.specs.body_terms.specs.declared.micro.Micro.{Micro}

-- which places are locks, and the greatest version
pub record CellRules : Type 0 where
  pub is_lock : ℕ → Bool
  pub version_max : ℕ

-- the words that sections share, and which words were read at which place
pub record Shared : Type 0 where
  pub cells : ℕ → ℕ
  pub clock : ℕ
  pub stamp : ℕ → ℕ
  pub reply : ℕ → ℕ
  pub seen : ℕ → ℕ → Bool

-- the section that a descriptor has: its lock with the free word that is expected there, its request, its
-- line with how many words the steps below a place commit, its log and its done word, and the furthest
-- place of its line to which a run has come
pub record Section : Type 0 where
  pub lock : ℕ
  pub word : ℕ
  pub request : ℕ
  pub code : ℕ → Micro
  pub slot : ℕ → ℕ
  pub log : ℕ → ℕ
  pub done : ℕ
  pub edge : ℕ

-- the run of a runner, if it is in one: its descriptor, its place in the line, the number that it goes by,
-- its trail and how many words that has; and once it has set the done word, the locks that it has released
pub record Run : Type 0 where
  pub running : Bool
  pub descriptor : ℕ
  pub at : ℕ
  pub word : ℕ
  pub count : ℕ
  pub trail : ℕ → ℕ
  pub ended : Bool
  pub released : ℕ → Bool

-- what is kept of a run that came to its end: its section's lock and free word, its descriptor, and its trail
pub record Finished : Type 0 where
  pub lock : ℕ
  pub word : ℕ
  pub descriptor : ℕ
  pub count : ℕ
  pub trail : ℕ → ℕ

-- by descriptor: its section; whether it was published since it was last free, whether it is not retired
-- since then, and whether a run of it came to its end. By runner: its run, how many runs of it came to
-- their end, and what is kept of each
pub record AgreementState : Type 0 where
  pub shared : Shared
  pub section : ℕ → Section
  pub used : ℕ → Bool
  pub live : ℕ → Bool
  pub over : ℕ → Bool
  pub run : ℕ → Run
  pub finishes : ℕ → ℕ
  pub finished : ℕ → ℕ → Finished

-- the section of a runner's run
abbrev pub section_of : AgreementState → ℕ → Section
section_of w r = w.section ((w.run r).descriptor)

-- published since it was last free, and not done
pub record IsOpen (w : AgreementState) (d : ℕ) : Type 0 where
  pub used : w.used d ≡ true
  pub undone : (w.section d).done ≡ 0
