-- The formats of a text, by their number, and the requests that can be asked in one.
use Rattle.std.specs.Prelude.{ℕ, ◌≤◌, All, List, fold, max}
use Rattle.map_history.specs.declared.op.Request.{Request}
use Rattle.map_history.specs.Keys.{least_format}

-- a format that is read
abbrev pub IsFormat : ℕ → Type 0
IsFormat format = (1 ≤ format) × (format ≤ 3)

-- each request can be asked in a text of this format
abbrev pub AreOfFormat : ℕ → List Request → Type 0
AreOfFormat format requests = All (λ request. least_format request.op ≤ format) requests

-- the least format of a text with these requests
abbrev pub format_for : List Request → ℕ
format_for requests = fold (λ format request. max format (least_format request.op)) 1 requests
