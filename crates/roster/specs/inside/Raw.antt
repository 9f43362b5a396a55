-- A machine as it is read, before its name is looked at, and the tree that machines are read from.
use Rattle.std.specs.Prelude.{◌≡◌, List, All}
use Rattle.canonical_sexp.specs.declared.sexp.Sexp.{Sexp}
use Rattle.roster.specs.declared.post.Post.{Post}
use Rattle.roster.specs.declared.reading.Raw.{Raw}
use Rattle.roster.specs.RosterText.{roster_tree, HasKey}

-- the machine that it is, whatever its name
abbrev pub post_of : Raw → Post
post_of raw = record { name = raw.name.now; role = raw.role; key = raw.key }

-- the tree is that of these machines, whatever they are called and however many they are
pub record IsRosterTree (tree : Sexp) (machines : List Post) : Type 0 where
  pub keys : All HasKey machines
  pub is : tree ≡ roster_tree machines
