-- Which losses the lines of a script say.
use Rattle.std.specs.Prelude.{ℕ, ◌==◌, ◌&&◌, Bool, List}
use Rattle.std.specs.List.{list_any}
use Rattle.election_script.specs.declared.script.Lose.{Lose}

-- a line of the script says that the machine's entry with this number is lost on its way to `to`
abbrev pub is_scripted : List Lose → ℕ → ℕ → ℕ → Bool
is_scripted loses from number to =
    list_any (λ lose. (lose.from == from) && ((lose.number == number) && (lose.to == to))) loses
