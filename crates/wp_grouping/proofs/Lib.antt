mod Joining
mod Keeping
mod Shapes
