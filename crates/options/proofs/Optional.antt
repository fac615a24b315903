-- Answers that may be none, mapped and bound.
use Rattle.std.proofs.Common.{◌≡◌, Some, None, Option, refl}
use Rattle.std.specs.Option.{option_map}
use Rattle.abnf.specs.Turns.{bind}

module _ {A B : Type 0} where
  pub mapped_bind : (f : A → B) (o : Option A) → bind o (λ a. Some (f a)) ≡ option_map f o
  mapped_bind f None = refl
  mapped_bind f (Some a) = refl

  pub bind_mapped : {C : Type 0} (f : A → B) (o : Option A) (g : B → Option C) → bind (option_map f o) g ≡ bind o (λ a. g (f a))
  bind_mapped f None g = refl
  bind_mapped f (Some a) g = refl

  pub bind_same : (o : Option A) (f g : A → Option B) → ((a : A) → f a ≡ g a) → bind o f ≡ bind o g
  bind_same None f g h = refl
  bind_same (Some a) f g h = h a
