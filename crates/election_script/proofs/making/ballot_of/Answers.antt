use Rattle.election_script.proofs.Imports.{ap, arith, concat, length, length-u32str, replicate, sym, take, take_all}
use Rattle.election_script.proofs.Imports.{u32str, ◌*◌, ◌+◌, ◌++◌, ◌∙◌, ◌≡◌}
use Rattle.election_script.proofs.Day.{copies_more}
use Rattle.election_script.proofs.making.ballot_of.Goals as goal

-- one copy more
pub loop-copy-preserved : goal.loop-copy-preserved
loop-copy-preserved c =
    let copy = c.loop-copy.copy in
    let octets = u32str c.args.session in
    let four : length c.u32_bytes-octets.result ≡ 4 =
    ap length c.u32_bytes-octets.ensures ∙ length-u32str c.args.session in
    let at : 4 * (copy + 1) ≡ 4 * copy + length c.u32_bytes-octets.result = omega arith in
    record {
      long = omega arith;
      copies = ap (λ k. take k c.write_at.new.bytes) at ∙ c.write_at.ensures.written
          ∙ ap (λ l. l ++ c.u32_bytes-octets.result) c.loop-copy.invariant.copies
          ∙ ap (λ l. concat (replicate copy octets) ++ l) c.u32_bytes-octets.ensures ∙ sym (copies_more copy octets);
    }

-- all eight
pub returns : goal.returns
returns c =
    let all : c.loop-copy.copy ≡ 8 = omega arith in
    sym (take_all 32 c.loop-copy.ballot (omega (arith, c.loop-copy.invariant.long)))
    ∙ (rw all at c.loop-copy.invariant.copies)
