-- The text of a roster: a canonical S-expression (R. Rivest).
use Rattle.std.specs.Prelude.{◌≡◌, ℕ, List, [], ◌∷◌, length, map, codes, All}
use Rattle.canonical_sexp.specs.declared.sexp.Sexp.{Sexp}
use Rattle.canonical_sexp.specs.declared.sexp.Sexp.TheVariants.{Atom}
use Rattle.canonical_sexp.specs.Text.{text_of, Fits}
use Rattle.canonical_sexp.specs.Forms.{list_of}
use Rattle.roster.specs.declared.post.Role.{Role}
use Rattle.roster.specs.declared.post.Role.TheVariants.{Supervisor, Booth}
use Rattle.roster.specs.declared.post.Post.{Post}

-- the word of a role
abbrev pub role_word : Role → List ℕ
role_word Supervisor = codes "supervisor"
role_word Booth = codes "booth"

-- a machine: its name, its role and its key (VoteBox, USENIX Security 2008; Rivest,
-- "S-expressions")
abbrev pub post_tree : Post → Sexp
post_tree post = list_of (Atom post.name ∷ Atom (role_word post.role) ∷ Atom post.key ∷ [])

-- what each roster begins with, and then these
abbrev pub headed : List Sexp → Sexp
headed trees = list_of (Atom (codes "roster") ∷ Atom (codes "1") ∷ trees)

-- a roster: its machines in their order
abbrev pub roster_tree : List Post → Sexp
roster_tree machines = headed (map post_tree machines)

-- a key has 56 octets
abbrev pub HasKey : Post → Type 0
HasKey post = length post.key ≡ 56

-- the text is that of these machines, within the limits of canonical texts
pub record IsRosterText (text : List ℕ) (machines : List Post) : Type 0 where
  pub keys : All HasKey machines
  pub within : Fits (roster_tree machines)
  pub spelt : text ≡ text_of (roster_tree machines)
