-- The addresses of a mailbox-list.
use Rattle.std.specs.Prelude.{ℕ, zero, suc, cond, List, [], ◌∷◌, length, Some, None, Option, ◌==◌, nat_le}
use Rattle.std.specs.Option.{unwrap_or}
use Rattle.abnf.specs.Classes.{behind_byte}
use Rattle.abnf.specs.Turns.{bind, run}
use Rattle.address.specs.Rfc5322.{Addr, most_addresses}
use Rattle.address.specs.Reads.{Found, mailbox_of}

-- behind a mailbox: the end, or a "," and more
abbrev pub listed_on : (List ℕ → Option (List Addr)) → Addr → List ℕ → Option (List Addr)
listed_on again a [] = Some (a ∷ [])
listed_on again a (b ∷ s) =
    let more = bind (again s) (λ others. Some (a ∷ others)) in
    cond (b == 44) more None

abbrev pub listed : (List ℕ → Option (List Addr)) → List ℕ → Option (List Addr)
listed again s = bind (mailbox_of s) (λ m. listed_on again m.address m.rest)

abbrev pub few_enough : List Addr → Option (List Addr)
few_enough xs = cond (nat_le (length xs) most_addresses) (Some xs) None

-- the addresses of the mailbox-list that fills the bytes
abbrev pub mailbox_list_of : List ℕ → Option (List Addr)
mailbox_list_of s = bind (run listed s) few_enough

-- ---- the addresses that bytes begin with, up to the first that is none
-- behind a comma, or nothing
abbrev pub behind_comma : List ℕ → List ℕ
behind_comma s = unwrap_or (behind_byte 44 s) []

abbrev pub addresses_on : (List ℕ → List Addr) → Option Found → List Addr
addresses_on again None = []
addresses_on again (Some m) = m.address ∷ again (behind_comma m.rest)

abbrev pub addresses_by : ℕ → List ℕ → List Addr
addresses_by zero s = []
addresses_by (suc k) s = addresses_on (addresses_by k) (mailbox_of s)

unfoldable pub addresses : List ℕ → List Addr
addresses s = addresses_by (suc (length s)) s

-- the first and the others
abbrev pub parted : List Addr → Option (Addr × List Addr)
parted [] = None
parted (a ∷ others) = Some (a, others)
