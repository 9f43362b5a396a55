-- Entries that name one another by digest.
use Rattle.std.specs.Prelude.{◌≡◌, ◌≢◌, ℕ, Bool, List}
use Rattle.std.specs.List.{Contains, list_any}
use Rattle.std.specs.Str.{bytes_eq}
use Rattle.entry_order.specs.Node.{Node}

module _ {T : Type 0} (node : T → Node) where
  -- e names f: f's digest is among e's names (Auditorium, EVT 2007)
  abbrev pub Names : T → T → Type 0
  Names e f = Contains (node e).names (node f).digest

  -- an entry of E names the digest
  abbrev pub IsNamedIn : List T → List ℕ → Type 0
  IsNamedIn E d = (e : T) × Contains E e × Contains (node e).names d

  -- an entry of E has the digest
  abbrev pub IsBorneIn : List T → List ℕ → Type 0
  IsBorneIn E d = (e : T) × Contains E e × ((node e).digest ≡ d)

  -- whether e names the digest
  abbrev pub names_digest : T → List ℕ → Bool
  names_digest e d = list_any (λ c. bytes_eq c d) (node e).names

  -- whether one of the entries names the digest
  abbrev pub is_named : List T → List ℕ → Bool
  is_named es d = list_any (λ e. names_digest e d) es

  -- whether one of the entries has the digest
  abbrev pub has_digest : List T → List ℕ → Bool
  has_digest es d = list_any (λ e. bytes_eq (node e).digest d) es

  -- none of the entries has e's digest
  abbrev pub IsNew : List T → T → Type 0
  IsNew es e = (g : T) → Contains es g → (node g).digest ≢ (node e).digest

  -- two entries of E with one digest are equal
  abbrev pub Distinct : List T → Type 0
  Distinct E = (e f : T) → Contains E e → Contains E f → (node e).digest ≡ (node f).digest → e ≡ f
