-- A reader that is sound and complete reads exactly.
use Rattle.std.proofs.Common.{◌≡◌, ℕ, List, Some, None, Option, sym, refl, ap, ◌∙◌}
use Rattle.std.proofs.lemmas.Option.{same_Some}
use Rattle.std.specs.Option.{option_map}
use Rattle.abnf.specs.Abnf.{Rule}
use Rattle.abnf.specs.Exact.{Exactly, itself}
use Rattle.abnf.proofs.Turns.{mapped_some}

pub exactly : {X Y : Type 0} (R : X → Rule) (f : X → Y) (s : List ℕ) (o : Option X) (r : Option Y) → r ≡ option_map f o → ((x : X) → o ≡ Some x → R x s) → ((x : X) → R x s → o ≡ Some x) → Exactly R f s r
exactly R f s o r e sound complete = record {
  derived = λ y q. let m = mapped_some f o y (sym e ∙ q) in (m.0, sound m.0 m.1, sym m.2);
  answered = λ x h. e ∙ ap (option_map f) (complete x h);
  alone = λ x y h k. same_Some _ _ (sym (complete x h) ∙ complete y k);
}

pub mapped_itself : {X : Type 0} (o : Option X) → o ≡ option_map itself o
mapped_itself None = refl
mapped_itself (Some x) = refl
