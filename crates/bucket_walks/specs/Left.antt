-- How many loads a walk of a bucket has left.
use Rattle.std.specs.Prelude.{ℕ, ◌+◌, ◌*◌, ◌-◌}
use Rattle.bucket_laws.specs.TwoWalk.{Part, OnFirst, OnSecond, AtLower, AtHigher, AtBoth, Stopped, TwoWalk}
use Rattle.bucket_laws.specs.Walk.{Stage, AtEdition, AtLink, AtKey, AtValue, AtNext, AtLock, AtEnd, Refused, Walk, Bounds}

-- two for each of so many links, and those at the end
abbrev pub left_at : Stage → ℕ → ℕ
left_at AtEdition links = 2 * links + 4
left_at AtLink links = 2 * links + 3
left_at AtKey links = 2 * links + 4
left_at AtValue links = 3
left_at AtNext links = 2
left_at AtLock links = 1
left_at AtEnd links = 0
left_at Refused links = 0

-- by the links that it may still load
abbrev pub left_in : Bounds → Walk → ℕ
left_in b w = left_at w.stage (b.links - w.links)

-- of a walk over two keys: those of the first walk, of a second one that hasn't begun, and of two locks
abbrev pub two_left : Bounds → TwoWalk → Part → ℕ
two_left b w OnFirst = left_in b w.first + (2 * b.links + 6)
two_left b w OnSecond = left_in b w.second + 2
two_left b w AtLower = 2
two_left b w AtHigher = 1
two_left b w AtBoth = 0
two_left b w Stopped = 0
