use Rattle.precedence.proofs.building.take_in_each.Given as goal
use Rattle.precedence.specs.{Bits.has_bit, Bits.row_has, inside.Words.words_below}
use Rattle.std.proofs.Common.{length, take, ℕ, ◌==◌, ◌||◌, ◌≡◌}
use Rattle.std.specs.List.{list_any}

-- the parents so far are taken in
abbrev pub invariant-loop-parent : goal.invariant-loop-parent
invariant-loop-parent l = record {
  long : length l.words ≡ words_below (length l.rows);
  taken : (y : ℕ) → has_bit l.words y ≡ (has_bit l.fn.words y
      || list_any (λ parent. (parent == y) || row_has l.rows parent y) (take l.parent-index l.parents));
}
