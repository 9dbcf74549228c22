use Rattle.kms_blobs.proofs.gammas.gamma_held.Goals as goal

pub returns : goal.returns
returns c = λ i. record { red = c.channel_values.ensures i; green = c.channel_values-2.ensures i; blue = c.channel_values-3.ensures i }
