use Rattle.linear_solver.specs.Found.{height_of}
use Rattle.linear_solver.proofs.searching.+search.Given as goal

abbrev pub decreases-search : goal.decreases-search
decreases-search l = height_of l.part
