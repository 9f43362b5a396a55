-- Where columns, lanes and levels are in a picture, in its units.
use Rattle.std.specs.Prelude.{ℕ, zero, suc, ◌+◌, ◌-◌, ◌*◌, ◌==◌, if◌then◌else◌, max, List, map, slice_index}
use Rattle.std.specs.List.{fold, range_with_len}
use Rattle.entangled_picture.specs.declared.shape.Spot.{Spot}
use Rattle.entangled_picture.specs.declared.shape.Shape.{Shape}
use Rattle.entangled_picture.specs.declared.shape.Shape.TheVariants.{Lane, Log, Arrow, Bar, Light, Entry, Gap, Loss}
use Rattle.entangled_picture.specs.declared.shape.Shape.TheVariants.{Fork, Stray, Refused, Ending, Break}

-- how far right a spot is
abbrev pub x_of : Spot → ℕ
x_of at = 220 + 36 * at.column

-- how far right a mark is after a spot, with this number of marks between
abbrev pub x_after : Spot → ℕ → ℕ
x_after at order = x_of at + 24 * (order + 1)

-- how far right a gap is: half a column before the entries of its column
abbrev pub x_of_gap : Spot → ℕ
x_of_gap at = x_of at - 18

-- the right end of a shape
abbrev pub right_of : Shape → ℕ
right_of (Lane end logs) = x_of end
right_of (Log end log) = x_of end
right_of (Arrow from number to named) = x_of from
right_of (Bar from to entries) = x_of to
right_of (Light at rule) = x_of at
right_of (Entry at place number deed digest) = x_of at
right_of (Gap at digest) = x_of at
right_of (Loss from number to) = x_of from
right_of (Fork from to number) = x_of to
right_of (Stray at order digest) = x_after at order
right_of (Refused at order log place fault) = x_after at order
right_of (Ending at order log end) = x_after at order
right_of (Break at order log place) = x_after at order

-- the spot of a shape that is furthest down
abbrev pub foot_of : Shape → Spot
foot_of (Lane end logs) = end
foot_of (Log end log) = end
foot_of (Arrow from number to named) = from
foot_of (Bar from to entries) = to
foot_of (Light at rule) = at
foot_of (Entry at place number deed digest) = at
foot_of (Gap at digest) = at
foot_of (Loss from number to) = to
foot_of (Fork from to number) = from
foot_of (Stray at order digest) = at
foot_of (Refused at order log place fault) = at
foot_of (Ending at order log end) = at
foot_of (Break at order log place) = at

-- the height of a lane with this height and a shape more
abbrev pub grown_height : ℕ → ℕ → Shape → ℕ
grown_height lane height shape =
    if (foot_of shape).lane == lane then max height (32 + 64 * ((foot_of shape).level + 1)) else height

-- the height of a lane: there is room for each level that a shape of it has
abbrev pub lane_height : List Shape → ℕ → ℕ
lane_height shapes lane = fold (grown_height lane) 0 shapes

-- how far down the line of a lane is: below the lanes above it
abbrev pub top_of : List Shape → ℕ → ℕ
top_of shapes zero = 268
top_of shapes (suc lane) = top_of shapes lane + lane_height shapes lane

-- how far down the line of each lane is
abbrev pub tops_of : List Shape → ℕ → List ℕ
tops_of shapes lanes = map (top_of shapes) (range_with_len 0 lanes)

-- how far down a spot is
abbrev pub y_of : List ℕ → Spot → ℕ
y_of tops at = slice_index tops at.lane + 64 * at.level

-- how wide a picture is: there is room for the legend, and for the words at the last shape
abbrev pub width_of : List Shape → ℕ
width_of shapes = fold (λ width shape. max width (right_of shape)) 400 shapes + 130

-- how high a picture is whose lanes end there
abbrev pub height_of : List Shape → ℕ → ℕ
height_of shapes lanes = top_of shapes lanes
