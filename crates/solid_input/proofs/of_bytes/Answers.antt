-- `of_bytes` meets its contract: a fault in the first file, one in the second, bytes behind both, or what the two walks come to.
use native.Mathlib.Omega.{arith}
use Rattle.solid_input.proofs.Fronts.{within_A, first_fault, second_fault, within_both, trailing, both_found}
use Rattle.solid_input.proofs.of_bytes.Goals as goal

pub returns-in_default : goal.returns-in_default
returns-in_default c = rw c.on_nobody.ensures (first_fault c.args.operation c.args.bytes.now c.in_default.ensures.scanned)

pub slice_bounds-scan-count : goal.slice_bounds-scan-count
slice_bounds-scan-count c = within_A c.args.operation c.args.bytes.now c.in-Some.first c.scan.new.points c.scan.new.corners c.in-Some.ensures.scanned

pub slice_bounds-scan-start : goal.slice_bounds-scan-start
slice_bounds-scan-start c = within_A c.args.operation c.args.bytes.now c.in-Some.first c.scan.new.points c.scan.new.corners c.in-Some.ensures.scanned

pub returns-in_default-scan : goal.returns-in_default-scan
returns-in_default-scan c =
    rw c.on_nobody-in_default-scan.ensures
    (second_fault c.args.operation c.args.bytes.now c.in-Some.first c.scan.new.points c.scan.new.corners c.in-Some.ensures.scanned
    c.in_default-scan.ensures.scanned)

pub overflow_add-used : goal.overflow_add-used
overflow_add-used c =
    omega (
      arith,
      within_both c.args.operation c.args.bytes.now c.in-Some.first c.scan.new.points c.scan.new.corners c.in-Some.ensures.scanned
          c.in-Some-scan.second c.scan-2.new.points c.scan-2.new.corners c.in-Some-scan.ensures.scanned,
    )

pub returns-then-used-second : goal.returns-then-used-second
returns-then-used-second c =
    rw c.on_nobody-then-used-second.ensures
    (trailing c.args.operation c.args.bytes.now c.in-Some.first c.scan.new.points c.scan.new.corners c.in-Some.ensures.scanned
    c.in-Some-scan.second c.scan-2.new.points c.scan-2.new.corners c.in-Some-scan.ensures.scanned (omega arith))

pub returns : goal.returns
returns c =
    let f = c.scan in
    let g = c.scan-2 in
    rw c.of_walks.ensures
    (both_found c.args.operation c.args.bytes.now c.in-Some.first f.new.points f.new.corners c.in-Some.ensures.scanned
    c.in-Some-scan.second g.new.points g.new.corners c.in-Some-scan.ensures.scanned (omega arith)
    (f.ensures.points_len.0, f.ensures.points_len.1, g.ensures.points_len.0, g.ensures.points_len.1))
