-- How readers go on: one after another, and over and over.
use Rattle.std.specs.Prelude.{ℕ, zero, suc, List, length, Some, None, Option}

-- what a reader leaves of its bytes, if it reads them at all
abbrev pub Left : Type 0
Left = Option (List ℕ)

-- then f
abbrev pub bind : {A B : Type 0} → Option A → (A → Option B) → Option B
bind None f = None
bind (Some a) f = f a

-- a step that goes on by `again` on what is left, at most k times
abbrev pub turns : {A : Type 0} → ((List ℕ → Option A) → List ℕ → Option A) → ℕ → List ℕ → Option A
turns step zero s = None
turns step (suc k) s = step (turns step k) s

-- as often as there are bytes
abbrev pub run : {A : Type 0} → ((List ℕ → Option A) → List ℕ → Option A) → List ℕ → Option A
run step s = turns step (suc (length s)) s
