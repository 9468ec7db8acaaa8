-- The numbers so far, and the streams that are left make them what they are to be.
use Rattle.std.proofs.Common.{◌≡◌, ◌+◌, ◌*◌, ◌++◌, length, drop}
use Rattle.words.specs.Words.{flat}
use Rattle.cases.specs.Images.{stream_numbers, numbers_of}
use Rattle.cases.proofs.images.image_of.Given as goal

abbrev pub invariant-loop-stream : goal.invariant-loop-stream
invariant-loop-stream l =
    (length l.numbers ≡ 8 + length l.units + 4 * l.stream-index)
    × (l.numbers ++ flat stream_numbers (drop l.stream-index l.streams) ≡ numbers_of l.units l.streams)
