-- One name that opens the rule of the box: under a line `unfolding the_rule` a box's lists compute.
use mathlib.Core.List.{flat_map}
use Rattle.list_words.specs.Lists.{up_to, keep}
use Rattle.outage_rows.specs.Box.{faces, face_corners, triangle, cut, box}

unfoldable pub the_rule : Unit {0}
unfolding flat_map up_to keep faces face_corners triangle cut box
the_rule = tt
