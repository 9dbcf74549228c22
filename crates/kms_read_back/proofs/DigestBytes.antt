-- Each byte of a digest is one (FIPS 180-4, big-endian words).
use Rattle.std.proofs.Common.{ℕ, zero, suc, ◌/◌, ◌^◌, ◌<◌, List, arith}
use Rattle.std.specs.Prelude.{slice_index, All}
use Rattle.std.specs.Int.{byte_at, bytes_high_first, to_be_bytes, w32}
use Rattle.std.specs.List.{AllByRecursion}
use Rattle.std.proofs.lemmas.List.Elements.{All-append, All-from_recursion}
use Rattle.std.proofs.lemmas.Nat.{mod_below}
use Rattle.sha2.specs.Sha256.{digest_bytes, final_hash, initial_hash_256, sha256}

byte-small : (k n : ℕ) → byte_at k n < 256
byte-small zero n = mod_below n 256 (omega arith)
byte-small (suc k) n = mod_below (n / 256 ^ suc k) 256 (omega arith)

word-small : (k n : ℕ) → AllByRecursion (λ b. b < 256) (bytes_high_first k n)
word-small zero n = tt
word-small (suc k) n = (byte-small k n, word-small k n)

words-small : (h : List ℕ) (n : ℕ) → All (λ b. b < 256) (digest_bytes h n)
unfolding digest_bytes
words-small h zero = λ k d l. absurd (omega (arith, l))
words-small h (suc n) =
    All-append (λ b. b < 256) (digest_bytes h n) (to_be_bytes w32 (slice_index h n)) (words-small h n)
    (All-from_recursion (λ b. b < 256) (to_be_bytes w32 (slice_index h n)) (word-small 4 (slice_index h n)))

pub digests-are-bytes : (bytes : List ℕ) → All (λ b. b < 256) (sha256 bytes)
unfolding sha256
digests-are-bytes bytes = words-small (final_hash initial_hash_256 bytes) 8
