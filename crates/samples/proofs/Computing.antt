-- One name that opens every definition that the table computes with: under a line `unfolding computing` they all unfold.
use mathlib.Core.List.{flat_map, zip}
use lib.Ieee.{le, lt, sub, mul, div, neg, round, is_nan}
use Rattle.list_words.specs.Lists.{up_to, least, same, sum_of, keep, every, any, times, before}
use Rattle.points.specs.Points.{at_least, gap, share, between, held, interpolated, point_at, pair_at, placed}
use Rattle.crossings.specs.Crossings as C
use Rattle.solids.specs.Refusals.{in_order}
use Rattle.solids.specs.Solids.{half_edges, pairs, is_edge, edges}
use Rattle.solids.specs.Admission.{uneven, check_lengths, too_many, check_sizes, check_blanks, beyond, check_limit, too_high, named_twice, check_facet, check_corners, differ, check_half_edges, check_closure, admission}
use Rattle.solids.specs.Containment.{in_A, in_B}
use Rattle.results.specs.Inclusion.{edge_facet, facet_edge, inclusion, place}
use Rattle.results.specs.Vertices.{keys, same_key, kept, number}
use Rattle.results.specs.Pieces.{ends_of_eA, ends_of_fAfB, ends_of_eB, starts, stops, pieces}
use Rattle.results.specs.Triangles.{smallest, fan, boundary_A, boundary_B, triangles, listed, result}
use Rattle.results.specs.Operation.{too_short, operate, operation}

unfoldable pub computing : Unit {0}
unfolding flat_map zip le lt sub mul div neg round is_nan up_to least same sum_of keep every any times before at_least gap share between held interpolated
    point_at pair_at placed C.S C.lies C.first C.crossing C.paired C.ve C.ev C.vf C.fv C.ee C.ef C.fe in_order half_edges pairs is_edge edges uneven
    check_lengths too_many check_sizes check_blanks beyond check_limit too_high named_twice check_facet check_corners differ check_half_edges
    check_closure admission in_A in_B edge_facet facet_edge inclusion place keys same_key kept number ends_of_eA ends_of_fAfB ends_of_eB starts stops pieces smallest fan boundary_A
    boundary_B triangles listed result too_short operate operation
computing = tt
