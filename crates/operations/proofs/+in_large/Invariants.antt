-- It never calls itself: there is room for all crossings.
use Rattle.operations.proofs.+in_large.Given as goal

abbrev pub decreases-in_large : goal.decreases-in_large
decreases-in_large l = 0
