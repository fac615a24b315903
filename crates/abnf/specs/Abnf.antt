-- The operators of ABNF (RFC 5234). A rule is the strings of bytes that it derives.
use Rattle.std.specs.Prelude.{◌≡◌, ℕ, Bool, true, ◌⊎◌, List, [], ◌∷◌, ◌++◌, length}

infixr 60 ◌⋅◌
infixr 50 ◌∕◌
abbrev pub Rule : Type 1
Rule = List ℕ → Type 0

-- A B: one behind the other
abbrev pub ◌⋅◌ : Rule → Rule → Rule
◌⋅◌ A B w = (u : List ℕ) × (v : List ℕ) × (w ≡ u ++ v) × A u × B v

-- A / B
abbrev pub ◌∕◌ : Rule → Rule → Rule
◌∕◌ A B w = A w ⊎ B w

-- *A
pub data star (A : Rule) : List ℕ → Type 0 where
  done : star A []
  more : {u v w : List ℕ} → w ≡ u ++ v → A u → star A v → star A w

-- 1*A
abbrev pub plus : Rule → Rule
plus A = A ⋅ star A

-- [A]
abbrev pub opt : Rule → Rule
opt A w = (w ≡ []) ⊎ A w

-- %dN
abbrev pub byte : ℕ → Rule
byte n w = w ≡ n ∷ []

-- one byte of a class
abbrev pub one : (ℕ → Bool) → Rule
one p w = (b : ℕ) × (w ≡ b ∷ []) × (p b ≡ true)

-- nothing at all is there
abbrev pub empty : Rule
empty w = w ≡ []

-- what no string is
abbrev pub nothing : Rule
nothing w = ⊥

-- the phrase x, which A derives: so a rule tells a part of what it derives
abbrev pub the : List ℕ → Rule → Rule
the x A w = (w ≡ x) × A w

-- a phrase of n bytes: so a rule tells the place of what follows
abbrev pub sized : ℕ → Rule → Rule
sized n A w = (length w ≡ n) × A w

-- *A, where each phrase tells one of these
abbrev pub each : {X : Type 0} → (X → Rule) → List X → Rule
each A [] w = empty w
each A (x ∷ xs) w = (A x ⋅ each A xs) w

-- s begins with a phrase of A, and t is what is left
pub record At (A : Rule) (s t : List ℕ) : Type 0 where
  pub phrase : List ℕ
  pub is : s ≡ phrase ++ t
  pub derived : A phrase
