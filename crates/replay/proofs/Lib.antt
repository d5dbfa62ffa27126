-- What the proofs of this program have in common.
mod Literals
