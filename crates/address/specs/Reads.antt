-- What each reader of addresses tells, and what it leaves of its bytes.
use Rattle.std.specs.Prelude.{ℕ, Bool, cond, ◌||◌, List, [], ◌∷◌, Some, None, Option, ◌==◌}
use Rattle.fields.specs.Classes.{behind}
use Rattle.fields.specs.Fields.{Placed}
use Rattle.abnf.specs.Classes.{atext, dtext, behind_byte, behind_some}
use Rattle.abnf.specs.Turns.{Left, bind, run}
use Rattle.lexical.specs.Reads.{cfws, quoted_rest, either, word_rest}
use Rattle.lexical.specs.Spans.{text_of, within_of, token_of}
use Rattle.address.specs.Rfc5322.{Addr}

-- ---- dot-atom-text
-- behind a run of atext: each "." and the run behind it
abbrev pub dotted : (List ℕ → Left) → List ℕ → Left
dotted again [] = Some []
dotted again (b ∷ s) =
    let next = bind (behind_some atext s) again in
    cond (b == 46) next (Some (b ∷ s))

unfoldable pub dot_atom_rest : List ℕ → Left
dot_atom_rest s = bind (behind_some atext s) (run dotted)

-- ---- addr-spec
-- behind a domain literal whose "[" was read
abbrev pub literal_rest : List ℕ → Left
literal_rest s = behind_byte 93 (behind dtext s)

abbrev pub local_rest : List ℕ → Left
local_rest = either 34 quoted_rest dot_atom_rest

abbrev pub domain_rest : List ℕ → Left
domain_rest = either 91 literal_rest dot_atom_rest

-- an address, and what is left behind it
pub record Found : Type 0 where
  pub address : Addr
  pub rest : List ℕ

unfoldable pub addr_spec_of : List ℕ → Option Found
addr_spec_of s =
    bind (token_of local_rest s) (λ l. bind (behind_byte 64 l.rest) (λ u. bind (token_of domain_rest u) (λ d.
    Some (record { address = record { local = text_of l.text; domain = text_of d.text }; rest = d.rest }))))

-- ---- mailbox
-- what a word begins with
abbrev pub word_first : ℕ → Bool
word_first b = atext b || b == 34

-- each word and the white space behind it
abbrev pub name_words : (List ℕ → Left) → List ℕ → Left
name_words again [] = Some []
name_words again (b ∷ s) =
    let next = bind (word_rest (b ∷ s)) (λ t. bind (cfws t) again) in
    cond (word_first b) next (Some (b ∷ s))

-- behind *word [CFWS]
unfoldable pub name_rest : List ℕ → Left
name_rest s = bind (cfws s) (run name_words)

-- behind the "<" that a name leads to
abbrev pub angle_start : List ℕ → Left
angle_start s = bind (name_rest s) (behind_byte 60)

-- an angle-addr whose "<" was read
abbrev pub angle_of : List ℕ → Option Found
angle_of s =
    bind (addr_spec_of s) (λ f. bind (behind_byte 62 f.rest) (λ u. bind (cfws u) (λ t. Some (record { address = f.address; rest = t }))))

-- behind a "<", or with none
abbrev pub by_angle : Left → List ℕ → Option Found
by_angle None s = addr_spec_of s
by_angle (Some u) s = angle_of u

unfoldable pub mailbox_of : List ℕ → Option Found
mailbox_of s = by_angle (angle_start s) s

-- ---- what fills the bytes
abbrev pub at_end : {A : Type 0} → A → List ℕ → Option A
at_end x [] = Some x
at_end x (b ∷ s) = None

-- what fills the bytes but for [CFWS] behind it
abbrev pub to_end : {A : Type 0} → A → List ℕ → Option A
to_end x s = bind (cfws s) (at_end x)

-- ---- path
-- behind [CFWS] ">"
abbrev pub null_rest : List ℕ → Left
null_rest s = bind (cfws s) (behind_byte 62)

-- a path whose "<" was read
abbrev pub path_from : Left → List ℕ → Option (Option Addr)
path_from (Some u) s = to_end None u
path_from None s = bind (addr_spec_of s) (λ f. bind (behind_byte 62 f.rest) (to_end (Some f.address)))

abbrev pub path_of : List ℕ → Option (Option Addr)
path_of s = bind (cfws s) (λ t. bind (behind_byte 60 t) (λ u. path_from (null_rest u) u))

-- ---- msg-id
-- behind a msg-id from "<" to ">"
abbrev pub msg_id_rest : List ℕ → Left
msg_id_rest s =
    bind (behind_byte 60 s) (λ a. bind (dot_atom_rest a) (λ b. bind (behind_byte 64 b) (λ c. bind (domain_rest c) (behind_byte 62))))

abbrev pub msg_id_of : List ℕ → Option Placed
msg_id_of s =
    bind (token_of msg_id_rest s) (λ k. at_end (within_of s k.text) k.rest)
