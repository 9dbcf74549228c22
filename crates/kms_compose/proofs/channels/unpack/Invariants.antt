-- The places before i have the channel of their word.
use Rattle.std.proofs.Common.{◌≡◌, ◌<◌, ℕ, slice_index}
use Rattle.kms_model.specs.Frames.FrameBytes.{colour_of}
use Rattle.kms_compose.proofs.channels.unpack.Given as goal

abbrev pub invariant-loop-i : goal.invariant-loop-i
invariant-loop-i g l = (k : ℕ) → k < l.i → slice_index l.out k ≡ g.C.Channel.channel (colour_of l.format (slice_index l.words k))
