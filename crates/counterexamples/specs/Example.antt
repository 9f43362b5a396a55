-- A small world, computed: three machines A, B and C, and an entry that one of them hears late.
use Rattle.std.specs.Prelude.{◌≡◌, ℕ, true, List, [], ◌∷◌, Option}
use Rattle.entry_order.specs.declared.event.Event.{Event}
use Rattle.entry_order.specs.declared.event.Event.TheVariants.{Sent, Got}
use Rattle.entry_order.specs.declared.step.Step.TheVariants.{Act, Hear}
use Rattle.entry_order.specs.Node.{Node}
use Rattle.entry_order.specs.Naming.{Distinct}
use Rattle.entry_order.specs.World.{World, start, history, sent_in, IsLegalNext, play}
use Rattle.entry_order.specs.HeldBefore.{HeldBefore}
use Rattle.entry_order.specs.Precedes.{Precedes}
use Rattle.entry_order.specs.Survivors.{survivors, gaps}
use Rattle.entry_order.specs.Settled.{IsWhole}
use Rattle.entry_order.specs.Made.{next_made}

-- an entry of the example
pub record Entry : Type 0 where
  pub maker : ℕ
  pub number : ℕ
  pub stamp : ℕ
  pub names : List (List ℕ)

-- its digest is its maker and its number
abbrev pub digest_of : ℕ → ℕ → List ℕ
digest_of m n = m ∷ n ∷ []

-- what it shows
abbrev pub shown : Entry → Node
shown e = record {
  digest = digest_of e.maker e.number;
  names = e.names;
  maker = e.maker;
  number = e.number;
  stamp = e.stamp;
}

-- the entry of these parts
abbrev pub example_entry : ℕ → ℕ → ℕ → List (List ℕ) → Entry
example_entry m n s names = record { maker = m; number = n; stamp = s; names = names }

-- each machine may always send
abbrev pub next_example : ℕ → List (Event Entry) → Option Entry
next_example = next_made shown example_entry (λ m h. true)

-- A sends a0; B hears it and sends b0, b1; C hears a0, b1, sends c0, hears b0, sends c1; A sends a1
abbrev pub world : World Entry
world =
    play shown next_example 64 (start 3)
    (Act 0 ∷ Hear 1 0 0 ∷ Act 1 ∷ Act 1
    ∷ Hear 2 0 0 ∷ Hear 2 1 1 ∷ Act 2 ∷ Hear 2 1 0 ∷ Act 2 ∷ Act 0 ∷ [])

-- what A sends first, which names nothing; each entry names what its machine then holds and nothing
-- held names
abbrev pub a0 : Entry
a0 = example_entry 0 0 1 []

-- what A sends second: it names a0
abbrev pub a1 : Entry
a1 = example_entry 0 1 2 (digest_of 0 0 ∷ [])

-- what B sends first: it names a0
abbrev pub b0 : Entry
b0 = example_entry 1 0 2 (digest_of 0 0 ∷ [])

-- what B sends second: it names b0
abbrev pub b1 : Entry
b1 = example_entry 1 1 3 (digest_of 1 0 ∷ [])

-- what C sends first: it names a0 and b1
abbrev pub c0 : Entry
c0 = example_entry 2 0 4 (digest_of 0 0 ∷ digest_of 1 1 ∷ [])

-- b0, heard late, isn't named: b1, which C holds, names it
abbrev pub c1 : Entry
c1 = example_entry 2 1 5 (digest_of 2 0 ∷ [])

-- the entries that are left where b0 is lost
abbrev pub without_b0 : List Entry
without_b0 = a0 ∷ a1 ∷ b1 ∷ c0 ∷ c1 ∷ []

-- what the definitions say of this world
pub record IsExample : Type 0 where
  -- the machines follow the rules
  pub lawful : IsLegalNext shown next_example
  pub distinct : Distinct shown (sent_in world)
  -- what was sent, and what C held
  pub all_sent : sent_in world ≡ a0 ∷ a1 ∷ b0 ∷ b1 ∷ c0 ∷ c1 ∷ []
  pub history_of_c : history world 2 ≡ Got a0 ∷ Got b1 ∷ Sent c0 ∷ Got b0 ∷ Sent c1 ∷ []
  -- b0 is before c0, though C hadn't heard it: C held b1
  pub held_before : HeldBefore world b0 c0
  pub precedes : Precedes shown (sent_in world) b0 c0
  -- a1 and c1 are apart
  pub not_before : ¬ (Precedes shown (sent_in world) a1 c1)
  pub not_after : ¬ (Precedes shown (sent_in world) c1 a1)
  -- where b0 is lost, no other is set aside, b0 is the one gap, b1 isn't whole and a1 is
  pub no_stray : survivors shown without_b0 ≡ without_b0
  pub gap : gaps shown without_b0 ≡ digest_of 1 0 ∷ []
  pub not_whole : ¬ (IsWhole shown without_b0 b1)
  pub whole : IsWhole shown without_b0 a1
