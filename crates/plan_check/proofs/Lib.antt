mod Spreading
