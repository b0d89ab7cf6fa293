use Rattle.cover.proofs.words.+write.Given as goal

-- a predecessor's number is smaller
abbrev pub decreases-write : goal.decreases-write
decreases-write l = l.i
