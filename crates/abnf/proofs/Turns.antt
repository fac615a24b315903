-- The turns of a reader, and of the loop that is that reader.
use Rattle.std.proofs.Common.{◌≡◌, ℕ, zero, suc, ◌<◌, ◌≤◌, List, length, Some, None, Option, sym, refl, ap, ◌∙◌, arith}
use Rattle.std.proofs.lemmas.Option.{none-some, same_Some}
use Rattle.std.specs.Option.{option_map}
use Rattle.abnf.specs.Turns.{Left, bind, turns, run}
use Rattle.abnf.proofs.Runs.{Shortens}

pub bind_some : {A B : Type 0} (o : Option A) (f : A → Option B) (t : B) → bind o f ≡ Some t → (u : A) × (o ≡ Some u) × (f u ≡ Some t)
bind_some None f t e = absurd (none-some _ e)
bind_some (Some u) f t e = (u, refl, e)

pub mapped_some : {A B : Type 0} (f : A → B) (o : Option A) (y : B) → option_map f o ≡ Some y → (x : A) × (o ≡ Some x) × (f x ≡ y)
mapped_some f None y e = absurd (none-some _ e)
mapped_some f (Some x) y e = (x, refl, same_Some _ _ e)

-- a step shortens if going on does
abbrev pub ShortStep : ((List ℕ → Left) → List ℕ → Left) → Type 0
ShortStep step = (again : List ℕ → Left) → Shortens again → Shortens (step again)

pub turns_shorten : (step : (List ℕ → Left) → List ℕ → Left) → ShortStep step → (k : ℕ) → Shortens (turns step k)
turns_shorten step h zero s t e = absurd (none-some _ e)
turns_shorten step h (suc k) s t e = h (turns step k) (turns_shorten step h k) s t e

-- from `rest` the answer is still to be `whole`
pub record Going {A : Type 0} (step : (List ℕ → Option A) → List ℕ → Option A) (rest : List ℕ) (whole : Option A) : Type 0 where
  pub fuel : ℕ
  pub enough : length rest ≤ fuel
  pub same : step (turns step fuel) rest ≡ whole

pub going_run : {A : Type 0} (step : (List ℕ → Option A) → List ℕ → Option A) (s : List ℕ) → Going step s (run step s)
going_run step s = record { fuel = length s; enough = omega arith; same = refl }

-- by the bytes that `rest` is
pub going_at : {A : Type 0} {step : (List ℕ → Option A) → List ℕ → Option A} {rest : List ℕ} {whole : Option A} (g : Going step rest whole) {t : List ℕ} → rest ≡ t → step (turns step g.fuel) t ≡ whole
going_at {step = step} g e = ap (step (turns step g.fuel)) (sym e) ∙ g.same

-- after one turn `next` is left
pub record Turned {A : Type 0} (step : (List ℕ → Option A) → List ℕ → Option A) (s next : List ℕ) (whole : Option A) : Type 0 where
  pub less : length next < length s
  pub goes : Going step next whole

pub turned_by : {A : Type 0} (step : (List ℕ → Option A) → List ℕ → Option A) (whole : Option A) (fuel : ℕ) (s next : List ℕ) → length s ≤ fuel → length next < length s → turns step fuel next ≡ whole → Turned step s next whole
turned_by step whole zero s next h less e = absurd (omega arith)
turned_by step whole (suc k) s next h less e = record { less = less; goes = record { fuel = k; enough = omega arith; same = e } }
