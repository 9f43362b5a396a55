-- Paths of names: how they join, and what stands at their ends.
use Rattle.entry_order.proofs.Imports.Words
use Words.{Contains, IsPath, List, Names, Node, Precedes, [], inl, inr, refl, subst, ◌++◌, ◌∷◌, ◌≡◌, ◌⊎◌}

module _ {T : Type 0} (node : T → Node) (E : List T) where
  -- a path and a path on from its end
  pub path_over : (f : T) (gs : List T) (g : T) (hs : List T) (e : T) → IsPath node E f gs g → Contains E g →
      IsPath node E g hs e → IsPath node E f (gs ++ g ∷ hs) e
  path_over f [] g hs e p c q = (c, p, q)
  path_over f (h ∷ gs) g hs e (there, names, rest) c q = (there, names, path_over h gs g hs e rest c q)

  -- what precedes an entry precedes what the entry precedes
  pub precedes_over : (f g e : T) → Precedes node E f g → Precedes node E g e → Precedes node E f e
  precedes_over f g e (cf, cg, gs, p) (_, ce, hs, q) = (cf, ce, gs ++ g ∷ hs, path_over f gs g hs e p cg q)

  -- f is e, or precedes it
  abbrev pub IsNoLater : T → T → Type 0
  IsNoLater f e = (f ≡ e) ⊎ Precedes node E f e

  -- what precedes an entry precedes what the entry is or precedes
  pub precedes_on : (f g e : T) → Precedes node E f g → IsNoLater g e → Precedes node E f e
  precedes_on f g e before on =
      elim on [ inl is ↦ subst (Precedes node E f) is before | inr further ↦ precedes_over f g e before further ]

  -- what is no later than an entry is no later than what the entry is or precedes
  pub no_later_on : (f g e : T) → IsNoLater f g → IsNoLater g e → IsNoLater f e
  no_later_on f g e near on = elim near [ inl is ↦ rw is on | inr before ↦ inr (precedes_on f g e before on) ]

  -- an entry is there if it precedes another or is one that is there
  pub is_there : (f e : T) → Contains E e → IsNoLater f e → Contains E f
  is_there f e ce near = elim near [ inl is ↦ rw is ce | inr before ↦ before.0 ]

  -- what precedes h is no later than an entry that h names
  pub last_arrow : (f : T) (between : List T) (h : T) → Contains E f → IsPath node E f between h →
      (z : T) × Contains E z × Names node h z × IsNoLater f z
  last_arrow f [] h cf names = (f, cf, names, inl refl)
  last_arrow f (g ∷ gs) h cf (cg, names, path) =
      let (z, cz, named, near) = last_arrow g gs h cg path in
      (z, cz, named, inr (precedes_on f g z (cf, cg, [], names) near))
