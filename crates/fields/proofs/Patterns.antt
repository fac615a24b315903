-- What the slice patterns `[a, rest @ ..]`, `[a, b, rest @ ..]` and `[a, b, c, rest @ ..]` say of a list.
use Rattle.std.proofs.Common.{◌≡◌, ℕ, ◌-◌, ◌≤◌, List, ◌∷◌, length, get_or, take, drop, sym, ap, ◌∙◌, arith, drop-cons}
use Rattle.std.proofs.lemmas.List.{take_rest}

-- what is behind the first k, as the checker has it
abbrev pub tail : ℕ → List ℕ → List ℕ
tail k s = take (length s - k) (drop k s)

pub one_ahead : (s : List ℕ) → 1 ≤ length s → s ≡ get_or s 0 0 ∷ tail 1 s
one_ahead s h = drop-cons s 0 0 h ∙ ap (λ t. get_or s 0 0 ∷ t) (sym (take_rest s 1))

pub two_ahead : (s : List ℕ) → 2 ≤ length s → s ≡ get_or s 0 0 ∷ get_or s 1 0 ∷ tail 2 s
two_ahead s h =
    drop-cons s 0 0 (omega arith)
    ∙ ap (λ t. get_or s 0 0 ∷ t) (drop-cons s 1 0 h)
    ∙ ap (λ t. get_or s 0 0 ∷ get_or s 1 0 ∷ t) (sym (take_rest s 2))

pub three_ahead : (s : List ℕ) → 3 ≤ length s → s ≡ get_or s 0 0 ∷ get_or s 1 0 ∷ get_or s 2 0 ∷ tail 3 s
three_ahead s h =
    two_ahead s (omega arith)
    ∙ ap (λ t. get_or s 0 0 ∷ get_or s 1 0 ∷ t) (take_rest s 2 ∙ drop-cons s 2 0 h ∙ ap (λ t. get_or s 2 0 ∷ t) (sym (take_rest s 3)))
