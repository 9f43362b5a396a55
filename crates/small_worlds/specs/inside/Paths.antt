-- Paths among survivors, as they are searched.
use Rattle.std.specs.Prelude.{ℕ, zero, suc, Bool, not, ◌&&◌, ◌||◌, List}
use Rattle.std.specs.List.{list_any}
use Rattle.entry_order.specs.Node.{Node}
use Rattle.entry_order.specs.Naming.{names_digest}
use Rattle.entry_order.specs.Survivors.{is_stray}

module _ {T : Type 0} (node : T → Node) where
  -- whether e names f
  abbrev pub names_entry : T → T → Bool
  names_entry e f = names_digest node e (node f).digest

  module _ (given : List T) where
    -- whether g is a survivor that names f
    abbrev pub is_next : T → T → Bool
    is_next f g = not (is_stray node given g) && names_entry g f

    -- whether a path leads from f to e, with at most this many survivors between them
    abbrev pub leads : ℕ → T → T → Bool
    leads zero f e = names_entry e f
    leads (suc n) f e = names_entry e f || list_any (λ g. is_next f g && leads n g e) given

    -- whether both are survivors and a path leads from f to e, no longer than e's stamp
    abbrev pub is_before : T → T → Bool
    is_before f e =
        not (is_stray node given f) && (not (is_stray node given e) && leads (node e).stamp f e)
