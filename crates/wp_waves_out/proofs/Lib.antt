mod StartsSoFar
mod Going
mod Filled
