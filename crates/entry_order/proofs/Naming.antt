-- The tests of names and digests say what they test.
use Rattle.entry_order.proofs.Imports.Words
use Words.{Contains, IsBorneIn, IsNamedIn, IsNew, List, Node, bytes_eq, bytes_eq-Decides, false, false_from_ne_true}
use Words.{has_digest, is_named, list_any, names_digest, refl, true, ℕ, ◌↔◌, ◌≡◌}
use Rattle.entry_order.proofs.Lists.{list_any_of, list_any_some}

-- a digest is found among others exactly if it is one of them
pub is_among : (ds : List (List ℕ)) (d : List ℕ) → (list_any (λ c. bytes_eq c d) ds ≡ true) ↔ Contains ds d
is_among ds d = (
  λ t. let (c, there, same) = list_any_some _ ds t in rw ((bytes_eq-Decides c d).0 same) at there,
  λ there. list_any_of (λ c. bytes_eq c d) ds d there ((bytes_eq-Decides d d).1 refl),
)

module _ {T : Type 0} (node : T → Node) where
  -- a digest among the names is found
  pub names_digest_of : (e : T) (d : List ℕ) → Contains (node e).names d → names_digest node e d ≡ true
  names_digest_of e d = (is_among (node e).names d).1

  -- what is found is among the names
  pub names_digest_from : (e : T) (d : List ℕ) → names_digest node e d ≡ true → Contains (node e).names d
  names_digest_from e d = (is_among (node e).names d).0

  -- a digest that an entry names is found
  pub is_named_of : (E : List T) (d : List ℕ) → IsNamedIn node E d → is_named node E d ≡ true
  is_named_of E d (e, there, names) = list_any_of (λ g. names_digest node g d) E e there (names_digest_of e d names)

  -- what is found is named
  pub is_named_from : (E : List T) (d : List ℕ) → is_named node E d ≡ true → IsNamedIn node E d
  is_named_from E d t = let (g, there, names) = list_any_some _ E t in (g, there, names_digest_from g d names)

  -- a digest that an entry has is found
  pub has_digest_of : (E : List T) (d : List ℕ) → IsBorneIn node E d → has_digest node E d ≡ true
  has_digest_of E d (e, there, is) = list_any_of _ E e there ((bytes_eq-Decides (node e).digest d).1 is)

  -- an entry has the digest that is found
  pub has_digest_from : (E : List T) (d : List ℕ) → has_digest node E d ≡ true → IsBorneIn node E d
  has_digest_from E d t =
      let (g, there, same) = list_any_some _ E t in (g, there, (bytes_eq-Decides (node g).digest d).0 same)

  -- the digest of a new entry isn't found
  pub new_is_free : (es : List T) (e : T) → IsNew node es e → has_digest node es (node e).digest ≡ false
  new_is_free es e new =
      false_from_ne_true _ (λ t. let (g, there, same) = has_digest_from es (node e).digest t in new g there same)
