-- `measure` meets its contract: there are solids whose lists these are, so that its callees may be asked; what it counts holds for whatever solids.
use native.Mathlib.Omega.{arith}
use Rattle.result_sizes.proofs.Measures.{z_sized, few_crossings, vertices_there, columns_there, halves_there, ready, balanced}
use Rattle.result_sizes.proofs.measure.Goals as goal

pub number-n-requires : goal.number-n-requires
number-n-requires c =
    let g = c.requires.0 in
    let sz = z_sized g.op g.a g.b g.ok_a g.ok_b g.lists in
    (sz, few_crossings g.op g.a g.b g.ok_a g.ok_b g.lists, vertices_there g.op g.a g.b g.ok_a g.ok_b g.lists, omega (arith, sz.va, sz.vb))

pub fill-requires-clause-columns : goal.fill-requires-clause-columns
fill-requires-clause-columns c =
    let g = c.requires.0 in
    (columns_there g.op g.a g.b g.ok_a g.ok_b g.lists (omega arith), halves_there g.op g.a g.b g.ok_a g.ok_b g.lists)

pub fill-requires-clause-fb_in_bounds : goal.fill-requires-clause-fb_in_bounds
fill-requires-clause-fb_in_bounds c =
    let g = c.requires.0 in
    let sz = z_sized g.op g.a g.b g.ok_a g.ok_b g.lists in
    (omega (arith, sz.ea, sz.eb, sz.fa, sz.fb), omega arith)

pub count-triangles-requires-clause-ready : goal.count-triangles-requires-clause-ready
count-triangles-requires-clause-ready c =
    let g = c.requires.0 in
    let v = c.number-n in
    let n = v.ensures.numbered g.op g.a g.b g.lists.of_z_list g.lists.included g.lists.size in
    ready g.op g.a g.b g.ok_a g.ok_b g.lists n (omega arith) (omega arith) (omega (arith, v.ensures.few.0, c.requires.1))

pub count-triangles-requires-clause-marked : goal.count-triangles-requires-clause-marked
count-triangles-requires-clause-marked c = c.fill.ensures c.number-n.result.base

pub count-triangles-requires-clause-balanced : goal.count-triangles-requires-clause-balanced
count-triangles-requires-clause-balanced c =
    let g = c.requires.0 in
    let v = c.number-n in
    let n = v.ensures.numbered g.op g.a g.b g.lists.of_z_list g.lists.included g.lists.size in
    balanced g.op g.a g.b g.ok_a g.ok_b g.lists n

pub returns : goal.returns
returns c =
    let g = c.requires.0 in
    let v = c.number-n in
    let n = v.ensures.numbered g.op g.a g.b g.lists.of_z_list g.lists.included g.lists.size in
    record {
      numbered = λ op a b l. v.ensures.numbered op a b l.of_z_list l.included l.size;
      ready = ready g.op g.a g.b g.ok_a g.ok_b g.lists n (omega arith) (omega arith) (omega (arith, v.ensures.few.0, c.requires.1));
      marked = c.fill.ensures v.result.base;
      counted = c.count-triangles.ensures.counted;
      num_long = omega arith;
      marks_long = omega arith;
      few_vertices = v.ensures.few.1;
      few_triangles = c.count-triangles.ensures.small;
    }
