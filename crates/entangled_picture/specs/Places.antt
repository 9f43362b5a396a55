-- Which survivors a picture shows one by one, and where.
use Rattle.std.specs.Prelude.{ℕ, ◌+◌, ◌==◌, Bool, false, not, ◌&&◌, ◌||◌, nat_lt, nat_le, if◌then◌else◌}
use Rattle.std.specs.Prelude.{List, [], ◌∷◌, ◌++◌, length, take, drop, map, count_by, Option, Some, None, slice_get}
use Rattle.std.specs.List.{list_any, range_with_len, zip}
use Rattle.entry_format.specs.SealedEntry.{SealedEntry}
use Rattle.entry_graph.specs.EntryGraph.{EntryGraph, ragged_of}
use Rattle.rule_engine.specs.declared.verdict.Verdict.{Verdict}
use Rattle.rule_engine.specs.declared.verdict.Verdict.TheVariants.{Broken}
use Rattle.entangled_picture.specs.declared.shape.Spot.{Spot}
use Rattle.entangled_picture.specs.declared.seen.Seen.{Seen}
use Rattle.entangled_picture.specs.declared.placed.Placed.{Placed}

-- up to this many survivors each is drawn, and of gaps, forks and strays the first ones up to this number
abbrev pub most_drawn : ℕ
most_drawn = 300

-- of the arrows between survivors the first ones up to this number are drawn
abbrev pub most_arrows : ℕ
most_arrows = 5000

-- of the arrows to a gap the first ones up to this number are drawn
abbrev pub most_losses : ℕ
most_losses = 16

-- what a picture shows of a survivor
abbrev pub seen_of : SealedEntry → Seen
seen_of sealed = record {
  maker = sealed.entry.maker;
  number = sealed.entry.number;
  stamp = sealed.entry.stamp;
  deed = sealed.entry.deed;
  digest = sealed.digest;
}

-- one of the entries has this maker
abbrev pub has_maker : List Seen → ℕ → Bool
has_maker entries maker = list_any (λ (entry : Seen). entry.maker == maker) entries

-- an entry of this maker and number is one of a fork
abbrev pub is_forked : List (ℕ × ℕ) → ℕ → ℕ → Bool
is_forked forks maker number = list_any (λ (fork : ℕ × ℕ). fork.0 == maker && fork.1 == number) forks

-- the places of the survivors that a verdict names
abbrev pub places_in : Option Verdict → List ℕ
places_in (Some (Broken places)) = places.items
places_in other = []

-- a broken rule names the survivor at this place
abbrev pub is_lit : List Verdict → ℕ → Bool
is_lit verdicts place =
    list_any (λ (verdict : Verdict). list_any (λ other. other == place) (places_in (Some verdict))) verdicts

-- A survivor matters that is the first or the last of its maker, that names a gap, that is one of
-- the forks that are drawn, or that a broken rule names.
abbrev pub matters : EntryGraph SealedEntry → List Verdict → List Seen → ℕ → Seen → Bool
matters graph verdicts seen place entry =
    not (has_maker (take place seen) entry.maker) || not (has_maker (drop (place + 1) seen) entry.maker)
    || ragged_of graph.links place
    || is_forked (take most_drawn graph.forks) entry.maker entry.number || is_lit verdicts place

-- the survivor at a place matters
abbrev pub matters_at : EntryGraph SealedEntry → List Verdict → List Seen → ℕ → Option Seen → Bool
matters_at graph verdicts seen place None = false
matters_at graph verdicts seen place (Some entry) = matters graph verdicts seen place entry

-- the survivor at this place is drawn by itself: it matters, or there are few
abbrev pub is_drawn : EntryGraph SealedEntry → List Verdict → List Seen → ℕ → Bool
is_drawn graph verdicts seen place =
    nat_le (length seen) most_drawn || matters_at graph verdicts seen place (slice_get seen place)

-- whether each survivor is drawn by itself
abbrev pub drawn_of : EntryGraph SealedEntry → List Verdict → List Seen → List Bool
drawn_of graph verdicts seen = map (is_drawn graph verdicts seen) (range_with_len 0 (length seen))

-- an entry that is drawn begins a column where its stamp is greater than that of the column
abbrev pub begins_column : ℕ → Seen × Bool → Bool
begins_column stamp next = next.1 && nat_lt stamp next.0.stamp

-- the column after an entry
abbrev pub next_column : ℕ → ℕ → Seen × Bool → ℕ
next_column column stamp next = if begins_column stamp next then column + 1 else column

-- the stamp of the column after an entry
abbrev pub next_stamp : ℕ → Seen × Bool → ℕ
next_stamp stamp next = if begins_column stamp next then next.0.stamp else stamp

-- how many of these entries have the same maker and stamp
abbrev pub level_under : List Seen → Seen → ℕ
level_under before entry =
    count_by (λ (other : Seen). other.maker == entry.maker && other.stamp == entry.stamp) before

-- the spot of an entry in a column: in its maker's lane, below the entries there that have its
-- stamp, too
abbrev pub spot_of : List Seen → Seen → ℕ → Spot
spot_of before entry column = record { column = column; lane = entry.maker; level = level_under before entry }

-- the entry with its spot, if it is drawn
abbrev pub placed_as : List Seen → Seen → ℕ → Bool → Placed
placed_as before entry column is_drawn = record {
  seen = entry;
  at = if is_drawn then Some (spot_of before entry column) else None;
}

-- entries after others, of which the last column and its stamp are these: each is in the last
-- column that begins at it or earlier
abbrev pub placed_after : List Seen → ℕ → ℕ → List (Seen × Bool) → List Placed
placed_after before column stamp [] = []
placed_after before column stamp (next ∷ rest) =
    placed_as before next.0 (next_column column stamp next) next.1
    ∷ placed_after (before ++ next.0 ∷ []) (next_column column stamp next) (next_stamp stamp next) rest

-- all survivors of a graph with their spots
abbrev pub placed_of : EntryGraph SealedEntry → List Verdict → List Placed
placed_of graph verdicts =
    let seen = map seen_of graph.survivors in placed_after [] 0 0 (zip seen (drawn_of graph verdicts seen))
