-- The text of a script's roster is read as that roster.
use Rattle.honest_places.proofs.Imports
use Imports.{[], All, All-head, All-tail, ap, arith, atom_text, Booth, ComesTo, election_of, forest_of, GivesRoster}
use Imports.{HasKey, HaveText, inl, inr, IsLawful, IsName, IsOfScript, IsOkAnd, length, length-append, List, map}
use Imports.{max_machines, max_roster, Ok, one_reading, Post, post_tree, refl, Refusal, Result, Role, role_word}
use Imports.{roster_fits, roster_has_text, roster_of, roster_read, roster_tree, RosterRead, Script, SealedEntry, Some}
use Imports.{Step, Supervisor, text_of, texts_of, World, ℕ, ◌*◌, ◌∙◌, ◌∷◌, ◌≡◌, ◌≤◌}
use Rattle.honest_places.proofs.ShortLogs.{atom}

-- a machine's text has at most 200 bytes
posts_short : (machines : List Post) → All (λ (post : Post). IsName post.name) machines → All HasKey machines →
    length (texts_of (forest_of (map post_tree machines))) ≤ 200 * length machines
posts_short [] named keyed = omega arith
posts_short (post ∷ machines) named keyed =
    let name = (All-head (λ (post : Post). IsName post.name) post machines named).at_most in
    let key : length post.key ≡ 56 = All-head HasKey post machines keyed in
    let rest = posts_short machines (All-tail (λ (post : Post). IsName post.name) post machines named)
    (All-tail HasKey post machines keyed) in
    omega (arith, length-append {A = ℕ}, rest, name, key, word post.role, atom)
  where
    -- the word of a role
    word : (role : Role) → length (atom_text (role_word role)) ≤ 16
    word Supervisor = omega (arith, atom)
    word Booth = omega (arith, atom)

-- so a roster's text is within the limit of its file
roster_short : (machines : List Post) → HaveText machines → length (text_of (roster_tree machines)) ≤ max_roster
roster_short machines have =
    let few : length machines ≤ max_machines = have.roster.few in
    let posts = posts_short machines have.roster.named have.keys in
    omega (arith, few, length-append {A = ℕ}, atom, posts)

module _ (script : Script) (lawful : IsLawful script) where
  -- the text of the script's roster
  abbrev text : List ℕ
  text = text_of (roster_tree (roster_of script))

  -- the script's roster, in its election
  abbrev pub read_of_script : RosterRead
  read_of_script =
      record { roster = record { machines = roster_of script }; election = election_of (roster_of script) }

  -- the file of a script's roster gives that roster
  pub script_roster_given : (name : List ℕ) (answer : Result RosterRead Refusal) → GivesRoster name (Some text) answer →
      answer ≡ Ok read_of_script
  unfolding election_of
  script_roster_given name answer (inl (long, told)) =
      absurd (omega (arith, long, roster_short (roster_of script) (roster_has_text script lawful)))
  script_roster_given name answer (inr (short, (reading, reads, told))) =
      let have = roster_has_text script lawful in
      told
      ∙ ap (roster_read name text) (one_reading text reading (Ok (record { machines = roster_of script })) reads
      (record { keys = have.keys; within = roster_fits (roster_of script) have; spelt = refl }, have.roster))

  module _ (steps : List Step) (w : World SealedEntry) (comes : ComesTo script steps w) where
    -- under the script's roster, and in its election, the world is of the script
    pub world_of_script : IsOfScript (roster_of script) (election_of (roster_of script)) w
    unfolding election_of
    world_of_script =
        record { script = script; steps = steps; lawful = lawful; comes = comes; roster = refl; in_election = refl }

    -- the file of a script's roster gives that roster, and the world is of the script
    pub script_roster_is_read : (name : List ℕ) (answer : Result RosterRead Refusal) →
        GivesRoster name (Some text) answer → IsOkAnd answer (λ read. IsOfScript read.roster.machines read.election w)
    script_roster_is_read name answer gives =
        rw (script_roster_given name answer gives) world_of_script
