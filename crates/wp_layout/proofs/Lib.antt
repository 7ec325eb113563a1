mod ReadBack
mod KeyNames
mod JsonText
mod Finding
mod SameSpacings
mod Ranged
