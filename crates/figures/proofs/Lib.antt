mod Lined
mod Parted
