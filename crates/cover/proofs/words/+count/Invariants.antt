use Rattle.cover.proofs.words.+count.Given as goal

-- a predecessor's number is smaller
abbrev pub decreases-count : goal.decreases-count
decreases-count l = l.i
